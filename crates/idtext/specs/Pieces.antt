-- The pieces of a text between separators, its lines and its fields.
-- Source: passwd(5) and group(5), DESCRIPTION: one entry a line, its fields between colons.
use Rattle.std.specs.Prelude.{ℕ, Bool, List, [], ◌∷◌, ◌==◌, Option, Some, None, bytes_eq, take}
use Rattle.std.specs.Prelude.{length}
use Rattle.std.specs.List.{slice_split}

-- the pieces of a text between all bytes that are the separator
unfoldable pub pieces : ℕ → List ℕ → List (List ℕ)
pieces separator text = slice_split (λ b. b == separator) text

-- a last piece, unless it is empty
abbrev pub unless_empty : List ℕ → List (List ℕ)
unless_empty [] = []
unless_empty (b ∷ bs) = (b ∷ bs) ∷ []

-- pieces, without the last one if that is empty
abbrev pub without_empty_last : List (List ℕ) → List (List ℕ)
without_empty_last [] = []
without_empty_last (x ∷ []) = unless_empty x
without_empty_last (x ∷ y ∷ more) = x ∷ without_empty_last (y ∷ more)

-- the lines of a text: the pieces between newline bytes, without an empty last piece
unfoldable pub lines : List ℕ → List (List ℕ)
lines text = without_empty_last (pieces 10 text)

-- the fields of a line: the pieces between colons
abbrev pub fields_of : List ℕ → List (List ℕ)
fields_of line = pieces 58 line

-- the front of the text is this
abbrev pub begins_with : List ℕ → List ℕ → Bool
begins_with front text = bytes_eq (take (length front) text) front

-- the pieces of a text that may have come to its end
abbrev pub pieces_left : ℕ → Option (List ℕ) → List (List ℕ)
pieces_left separator None = []
pieces_left separator (Some text) = pieces separator text
