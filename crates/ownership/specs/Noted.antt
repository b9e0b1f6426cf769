-- Counters, and files that are noted beside them.
-- Words of the code and not of the subject: only private contracts, views and invariants cite them.
use Rattle.std.specs.Prelude.{ℕ, ◌+◌, ◌==◌, if◌then◌else◌, List, [], ◌∷◌, map, sum_by}
use Rattle.std.specs.Prelude.{slice_index_or}
use Rattle.ownership.specs.Counts.{Tally}
use Rattle.ownership.specs.declared.tally.Cell.{Cell}

-- how many files are noted with the number
abbrev pub noted_in : List Cell → ℕ → ℕ
noted_in notes v = sum_by (λ c. if c.number == v then c.files else 0) notes

-- the counters of a name, with the notes in them
abbrev pub with_notes : Tally → List Cell → Tally
with_notes t notes = record {
  total = t.total + sum_by (λ c. c.files) notes;
  cells = map (λ c. (c.0, c.1 + noted_in notes c.0)) t.cells;
}

abbrev pub notes_at : List (List Cell) → ℕ → List Cell
notes_at notes i = slice_index_or notes i []

-- those of each name
unfoldable pub with_all_notes : List Tally → List (List Cell) → List Tally
with_all_notes [] notes = []
with_all_notes (t ∷ ts) [] = with_notes t [] ∷ with_all_notes ts []
with_all_notes (t ∷ ts) (n ∷ ns) = with_notes t n ∷ with_all_notes ts ns
