-- What names of accounts are, by their bytes.
-- Source: passwd(5) and group(5), DESCRIPTION, for the bytes that stand between names, fields and
-- lines; all else is this project's own rule.
use Rattle.std.specs.Prelude.{◌≡◌, ◌≢◌, ◌↔◌, ℕ, ◌≤◌, true, List, length, All, slice_index}
use Rattle.idtext.specs.Names.{is_lawful_name}

-- a byte that is neither a comma, nor a colon, nor a newline, nor NUL
pub record IsNameByte (b : ℕ) : Type 0 where
  pub no_comma : b ≢ 44
  pub no_colon : b ≢ 58
  pub no_newline : b ≢ 10
  pub no_nul : b ≢ 0

-- 1 or more of these, the first of them neither a number sign, nor a plus, nor a minus
pub record IsOfNameBytes (name : List ℕ) : Type 0 where
  pub some : 1 ≤ length name
  pub no_number_sign_in_front : slice_index name 0 ≢ 35
  pub no_plus_in_front : slice_index name 0 ≢ 43
  pub no_minus_in_front : slice_index name 0 ≢ 45
  pub bytes : All IsNameByte name

-- exactly these are lawful names
abbrev pub LawfulNamesAreTheseBytes : Type 0
LawfulNamesAreTheseBytes = (name : List ℕ) → (is_lawful_name name ≡ true) ↔ IsOfNameBytes name
