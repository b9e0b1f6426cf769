use Rattle.std.proofs.Common.{◌≡◌, ℕ, take}
use Rattle.ownership.specs.Counts.{count_in, has_cell}
use Rattle.ownership.specs.Noted.{with_notes}
use Rattle.ownership.proofs.counting.settle.Given as goal

abbrev pub invariant-loop-note : goal.invariant-loop-note
invariant-loop-note l = record {
  total : l.tally.total ≡ (with_notes l.initial.tally (take l.note-index l.notes)).total;
  cells : (v : ℕ) → has_cell l.tally.cells v ≡ has_cell l.initial.tally.cells v;
  counts : (v : ℕ) → count_in l.tally.cells v ≡ count_in (with_notes l.initial.tally (take l.note-index l.notes)).cells v;
}
