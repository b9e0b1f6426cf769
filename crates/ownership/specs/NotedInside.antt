-- What the counters of one kind stand for while files are added.
-- Words of the code and not of the subject: only private contracts, views and invariants cite them.
use Rattle.std.specs.Prelude.{◌≡◌, ℕ, true, List, length, map}
use Rattle.std.specs.List.{All}
use Rattle.ownership.specs.Counts.{Tally, AreWithin, has_cell, tally_at}
use Rattle.ownership.specs.Noted.{notes_at, with_all_notes}
use Rattle.ownership.specs.declared.tally.Cell.{Cell}
use Rattle.ownership.specs.declared.counting.KindCounting.TheInside.{Inside}

abbrev pub all_notes : Inside → List (List Cell)
all_notes k = map (λ n. n.items) k.notes.items

abbrev pub noted_of : Inside → List Tally
noted_of k = with_all_notes k.tallies.items (all_notes k)

-- Each note has a counter, and no counter is above its bound with the notes.
pub record AreNoted (k : Inside) : Type 0 where
  pub len : length k.notes.items ≡ length k.tallies.items
  pub there : (i : ℕ)
      → All (λ c. has_cell (tally_at k.tallies.items i).cells c.number ≡ true)
      (notes_at (all_notes k) i)
  pub few : AreWithin (noted_of k) 2147483648
