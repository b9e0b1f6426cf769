-- When an account file is accepted: a law over all its lines at once, where the table asks line by
-- line.
-- Sources: passwd(5) and group(5) (one account a line); that neither a name nor a number stands
-- twice is this project's own rule.
use Rattle.std.specs.Prelude.{◌≡◌, ◌↔◌, ℕ, ◌+◌, ◌<◌, List, [], length, map, slice_index_or, Option}
use Rattle.std.specs.Prelude.{Result, Ok}
use Rattle.std.specs.Result.{IsOk}
use Rattle.idtext.specs.declared.faults.TextFault.{TextFault}
use Rattle.idtext.specs.Pieces.{lines}
use Rattle.accounts.specs.Laws.{AreDistinct}
use Rattle.accounts.specs.Rows.{Passwd, Group, passwd_line, group_line}
use Rattle.accounts.specs.Tables.{rows_from, passwd_table, group_table}

-- line_of: the row of a line with its number; name and number: of a row
module _ {Row : Type 0} (line_of : ℕ → List ℕ → Result (Option Row) TextFault) (name : Row → List ℕ)
    (number : Row → ℕ) where
  -- each line passes the checks that look at no other line
  abbrev pub EachPasses : List (List ℕ) → Type 0
  EachPasses ls = (i : ℕ) → i < length ls → IsOk (line_of (i + 1) (slice_index_or ls i []))

  -- the rows are those of the kept lines, each line passes by itself, names are distinct, and
  -- numbers are
  pub record IsAccepted (text : List ℕ) (rows : List Row) : Type 0 where
    pub rows_are : rows ≡ rows_from line_of name number 1 (lines text)
    pub lines_pass : EachPasses (lines text)
    pub names_differ : AreDistinct (map name rows)
    pub numbers_differ : AreDistinct (map number rows)

-- a text has a table exactly where it is accepted, and then that of its kept lines
abbrev pub PasswdIsAccepted : Type 0
PasswdIsAccepted = (text : List ℕ) (rows : List Passwd)
    → (passwd_table text ≡ Ok rows)
    ↔ IsAccepted passwd_line (λ row. row.name) (λ row. row.uid) text rows

abbrev pub GroupIsAccepted : Type 0
GroupIsAccepted = (text : List ℕ) (rows : List Group)
    → (group_table text ≡ Ok rows)
    ↔ IsAccepted group_line (λ row. row.name) (λ row. row.gid) text rows
