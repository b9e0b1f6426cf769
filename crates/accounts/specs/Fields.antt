-- Which rows a table has and which fields each has, in words of the lines of the file.
-- Sources: passwd(5) and group(5), DESCRIPTION (one account a line; seven and four fields, between
-- colons, in this order). Which lines are skipped is this project's own rule.
use Rattle.std.specs.Prelude.{◌≡◌, ℕ, ◌+◌, ◌<◌, false, List, [], ◌∷◌, Some, Ok, slice_get}
use Rattle.std.specs.List.{All, AllPairs, Contains, join_with_byte}
use Rattle.idtext.specs.Names.{is_skipped}
use Rattle.idtext.specs.Numbers.{id_of}
use Rattle.idtext.specs.Pieces.{lines as lines_of}
use Rattle.accounts.specs.Rows.{Passwd, Group}
use Rattle.accounts.specs.Tables.{passwd_table, group_table}

-- The line is these fields and nothing else, with a colon between each and the next. None of them
-- has a colon, so a line has its fields in one way only.
pub record AreFieldsOf (line : List ℕ) (fields : List (List ℕ)) : Type 0 where
  pub whole : line ≡ join_with_byte 58 fields
  pub no_colon : All (λ field. ¬ Contains field 58) fields

-- a row of the line with this number: its seven fields, two of which are numbers
pub record IsUserOfLine (number : ℕ) (line : List ℕ) (row : Passwd) : Type 0 where
  pub uid_text : List ℕ
  pub gid_text : List ℕ
  pub fields : AreFieldsOf line (row.name ∷ row.password ∷ uid_text ∷ gid_text ∷ row.comment
      ∷ row.home ∷ row.shell ∷ [])
  pub uid : id_of uid_text ≡ Some row.uid
  pub gid : id_of gid_text ≡ Some row.gid
  pub numbered : row.line ≡ number

-- the same of a group: its four fields, one of which is a number
pub record IsGroupOfLine (number : ℕ) (line : List ℕ) (row : Group) : Type 0 where
  pub gid_text : List ℕ
  pub fields : AreFieldsOf line (row.name ∷ row.password ∷ gid_text ∷ row.members ∷ [])
  pub gid : id_of gid_text ≡ Some row.gid
  pub numbered : row.line ≡ number

-- this line stands after i others, and says something
abbrev pub StandsAfter : List (List ℕ) → ℕ → List ℕ → Type 0
StandsAfter lines i line = (slice_get lines i ≡ Some line) × (is_skipped line ≡ false)

-- Rows of the lines of a file, of which the first is line 1. Each row is of a line that says
-- something, each such line has a row, and rows stand in the order of their lines.
pub record AreOfLines {Row : Type 0} (IsOfLine : ℕ → List ℕ → Row → Type 0) (line_of : Row → ℕ)
    (lines : List (List ℕ)) (rows : List Row) : Type 0 where
  pub each_row : (row : Row) → Contains rows row
      → (i : ℕ) × (line : List ℕ) × StandsAfter lines i line × IsOfLine (i + 1) line row
  pub each_line : (i : ℕ) (line : List ℕ) → StandsAfter lines i line
      → (row : Row) × Contains rows row × IsOfLine (i + 1) line row
  pub in_order : AllPairs (λ one later. line_of one < line_of later) rows

-- of each text that has a table the rows are those of its lines
abbrev pub UserRowsHaveTheirFields : Type 0
UserRowsHaveTheirFields = (text : List ℕ) (rows : List Passwd) → passwd_table text ≡ Ok rows
    → AreOfLines IsUserOfLine (λ row. row.line) (lines_of text) rows

abbrev pub GroupRowsHaveTheirFields : Type 0
GroupRowsHaveTheirFields = (text : List ℕ) (rows : List Group) → group_table text ≡ Ok rows
    → AreOfLines IsGroupOfLine (λ row. row.line) (lines_of text) rows
