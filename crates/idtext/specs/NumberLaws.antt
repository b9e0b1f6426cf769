-- Laws over the numbers that texts write, digit by digit.
-- Source: passwd(5) and group(5) (uid and gid in decimal); login.defs(5) of the shadow suite,
-- DESCRIPTION (numbers are decimal, octal with a leading 0, hexadecimal with a leading 0x);
-- chown(2) for the greatest id.
use Rattle.std.specs.Prelude.{◌≡◌, ◌≢◌, ◌⊎◌, ◌<◌, ◌≤◌, ℕ, ◌+◌, ◌*◌, List, [], ◌∷◌, ◌++◌, Option}
use Rattle.std.specs.Prelude.{Some, None, codes, slice_get, slice_index}
use Rattle.idtext.specs.Numbers.{c_number_of, greatest_id, id_of}

-- the byte is how the base writes the digit d: `0` to `9`, then letters, small or capital
abbrev pub IsDigit : ℕ → ℕ → ℕ → Type 0
IsDigit base d byte =
    (d < base)
    × ((slice_get (codes "0123456789abcdef") d ≡ Some byte)
    ⊎ (slice_get (codes "0123456789ABCDEF") d ≡ Some byte))

-- What is read of a text is the number that its digits write in the base: of no byte none; of one
-- digit its value; and one digit more makes of n the number `n * base + d`, if that is no greater
-- than the greatest id. A text in which a byte is no digit has no number, and neither has one that
-- goes on after bytes that have none.
pub record ReadsDigits (base : ℕ) (read : List ℕ → Option ℕ) : Type 0 where
  pub nothing : read [] ≡ None
  pub one : (d byte : ℕ) → IsDigit base d byte → read (byte ∷ []) ≡ Some d
  pub more : (text : List ℕ) (n d byte : ℕ) → read text ≡ Some n → IsDigit base d byte
      → n * base + d ≤ greatest_id → read (text ++ byte ∷ []) ≡ Some (n * base + d)
  pub great : (text : List ℕ) (n d byte : ℕ) → read text ≡ Some n → IsDigit base d byte
      → greatest_id < n * base + d → read (text ++ byte ∷ []) ≡ None
  pub longer : (text : List ℕ) (byte : ℕ) → text ≢ [] → read text ≡ None
      → read (text ++ byte ∷ []) ≡ None
  pub others : (text : List ℕ) (byte : ℕ) → ¬ ((d : ℕ) × IsDigit base d byte)
      → read (text ++ byte ∷ []) ≡ None

-- an id is what its decimal digits write
abbrev pub DecimalsAreTheirDigits : Type 0
DecimalsAreTheirDigits = ReadsDigits 10 id_of

-- A number of C is what its digits write: decimal ones where the text does not begin with `0`;
-- hexadecimal ones after `0x` or `0X`; and else octal ones, of which the `0` is the first.
pub record CNumbersAreTheirDigits : Type 0 where
  pub decimal : (text : List ℕ) → slice_index text 0 ≢ 48 → c_number_of text ≡ id_of text
  pub hexadecimal : (x : ℕ) → (x ≡ 120) ⊎ (x ≡ 88)
      → ReadsDigits 16 (λ digits. c_number_of (48 ∷ x ∷ digits))
  pub octal_of : List ℕ → Option ℕ
  pub octal_digits : ReadsDigits 8 octal_of
  pub octal : (digits : List ℕ) → slice_index digits 0 ≢ 120 → slice_index digits 0 ≢ 88
      → c_number_of (48 ∷ digits) ≡ octal_of (48 ∷ digits)
