-- What is told of an account file that is refused, in the words of the checks of a line and their
-- order.
-- Sources: passwd(5) and group(5) (which fields a line has); the checks, their order and the limits
-- are this project's own rules.
use Rattle.std.specs.Prelude.{◌≡◌, ◌⊎◌, ◌<◌, ℕ, ◌+◌, false, List, [], ◌∷◌, Option, Some, None}
use Rattle.std.specs.Prelude.{Result, Ok, Err, length, map, take, slice_get, slice_index_or}
use Rattle.std.specs.Prelude.{if◌then◌else◌}
use Rattle.std.specs.List.{Contains}
use Rattle.idtext.specs.declared.faults.TextCode.{TextCode}
use Rattle.idtext.specs.declared.faults.TextCode.TheVariants.{TooManyLines, LineTooLong, CompatLine}
use Rattle.idtext.specs.declared.faults.TextCode.TheVariants.{BadFields, BadName, BadNumber}
use Rattle.idtext.specs.declared.faults.TextCode.TheVariants.{NameTwice, SharedNumber}
use Rattle.idtext.specs.declared.faults.TextFault.{TextFault}
use Rattle.idtext.specs.Names.{is_lawful_name, is_skipped}
use Rattle.idtext.specs.Numbers.{id_of}
use Rattle.idtext.specs.Pieces.{fields_of, lines as lines_of}
use Rattle.accounts.specs.Rows.{Passwd, Group, passwd_line, group_line}
use Rattle.accounts.specs.Tables.{rows_from, passwd_table, group_table}

-- ---- the checks of a line

-- in the order in which they are made; a line that says nothing has only the first two
abbrev pub checks_of : List ℕ → List TextCode
checks_of line =
    TooManyLines ∷ LineTooLong ∷ (if is_skipped line then []
    else CompatLine ∷ BadFields ∷ BadName ∷ BadNumber ∷ NameTwice ∷ SharedNumber ∷ [])

-- the line breaks none of the checks
abbrev pub BreaksNone : (TextCode → Type 0) → List TextCode → Type 0
BreaksNone Breaks [] = Unit {0}
BreaksNone Breaks (code ∷ later) = (¬ Breaks code) × BreaksNone Breaks later

-- the code is the first of the checks that the line breaks
abbrev pub IsFirstBroken : (TextCode → Type 0) → List TextCode → TextCode → Type 0
IsFirstBroken Breaks [] told = ⊥
IsFirstBroken Breaks (code ∷ later) told =
    ((told ≡ code) × Breaks code) ⊎ ((¬ Breaks code) × IsFirstBroken Breaks later told)

abbrev pub field : List (List ℕ) → ℕ → List ℕ
field fields index = slice_index_or fields index []

-- What it is to break a check, for the line of number n with these fields.
-- many: how many fields there are; NumberIsBad: whether a field of them that has to be an id is
-- none; names, numbers: those of the rows before
abbrev pub BreaksBeside : ℕ → (List (List ℕ) → Type 0) → List (List ℕ) → List ℕ → ℕ → List ℕ
    → List (List ℕ) → TextCode → Type 0
BreaksBeside many NumberIsBad names numbers n line fields TooManyLines = 65536 < n
BreaksBeside many NumberIsBad names numbers n line fields LineTooLong = 65535 < length line
BreaksBeside many NumberIsBad names numbers n line fields CompatLine =
    (slice_get line 0 ≡ Some 43) ⊎ (slice_get line 0 ≡ Some 45)
BreaksBeside many NumberIsBad names numbers n line fields BadFields = ¬ (length fields ≡ many)
BreaksBeside many NumberIsBad names numbers n line fields BadName =
    is_lawful_name (field fields 0) ≡ false
BreaksBeside many NumberIsBad names numbers n line fields BadNumber = NumberIsBad fields
BreaksBeside many NumberIsBad names numbers n line fields NameTwice =
    Contains names (field fields 0)
BreaksBeside many NumberIsBad names numbers n line fields SharedNumber =
    (number : ℕ) × (id_of (field fields 2) ≡ Some number) × Contains numbers number
BreaksBeside many NumberIsBad names numbers n line fields other = ⊥

-- ---- the lines of a file

-- line_of: the row of a line with its number; name and number: of a row
module _ {Row : Type 0} (line_of : ℕ → List ℕ → Result (Option Row) TextFault) (name : Row → List ℕ)
    (number : Row → ℕ) (many : ℕ) (NumberIsBad : List (List ℕ) → Type 0) where
  -- what it is to break a check, after other lines
  abbrev pub Breaks : List (List ℕ) → List ℕ → TextCode → Type 0
  Breaks before line =
      BreaksBeside many NumberIsBad (map name (rows_from line_of name number 1 before))
      (map number (rows_from line_of name number 1 before)) (length before + 1) line
      (fields_of line)

  -- a line that may stand after other lines
  abbrev pub MayStand : List (List ℕ) → List ℕ → Type 0
  MayStand before line = BreaksNone (Breaks before line) (checks_of line)

  abbrev pub AllMayStand : List (List ℕ) → Type 0
  AllMayStand lines =
      (i : ℕ) (line : List ℕ) → slice_get lines i ≡ Some line → MayStand (take i lines) line

  -- the first line that may not stand is told, counted from 1, with the first check that it breaks
  pub record IsFirstFault (lines : List (List ℕ)) (fault : TextFault) : Type 0 where
    pub before : ℕ
    pub line : List ℕ
    pub there : slice_get lines before ≡ Some line
    pub good : (i : ℕ) (earlier : List ℕ) → i < before → slice_get lines i ≡ Some earlier
        → MayStand (take i lines) earlier
    pub numbered : fault.line ≡ before + 1
    pub first : IsFirstBroken (Breaks (take before lines) line) (checks_of line) fault.code

-- ---- passwd and group

-- the third or the fourth field of a passwd line, and the third of a group line, is no id
abbrev pub PasswdNumberIsBad : List (List ℕ) → Type 0
PasswdNumberIsBad fields = (id_of (field fields 2) ≡ None) ⊎ (id_of (field fields 3) ≡ None)

abbrev pub GroupNumberIsBad : List (List ℕ) → Type 0
GroupNumberIsBad fields = id_of (field fields 2) ≡ None

-- each line of a file that has a table may stand
abbrev pub PasswdLinesMayStand : Type 0
PasswdLinesMayStand = (text : List ℕ) (rows : List Passwd) → passwd_table text ≡ Ok rows
    → AllMayStand passwd_line (λ row. row.name) (λ row. row.uid) 7 PasswdNumberIsBad (lines_of text)

abbrev pub GroupLinesMayStand : Type 0
GroupLinesMayStand = (text : List ℕ) (rows : List Group) → group_table text ≡ Ok rows
    → AllMayStand group_line (λ row. row.name) (λ row. row.gid) 4 GroupNumberIsBad (lines_of text)

-- of any other the first fault is told
abbrev pub PasswdFirstFaultIsTold : Type 0
PasswdFirstFaultIsTold = (text : List ℕ) (fault : TextFault) → passwd_table text ≡ Err fault
    → IsFirstFault passwd_line (λ row. row.name) (λ row. row.uid) 7 PasswdNumberIsBad
    (lines_of text) fault

abbrev pub GroupFirstFaultIsTold : Type 0
GroupFirstFaultIsTold = (text : List ℕ) (fault : TextFault) → group_table text ≡ Err fault
    → IsFirstFault group_line (λ row. row.name) (λ row. row.gid) 4 GroupNumberIsBad
    (lines_of text) fault
