use Rattle.std.proofs.Common.{◌≡◌, ℕ, ◌<◌, ◌≤◌, length, map}
use Rattle.ownership.specs.Counts.{tally_at}
use Rattle.ownership.specs.Noted.{notes_at}
use Rattle.ownership.proofs.NoteLemmas.{IsSettled}
use Rattle.ownership.proofs.counting.KindCounting.settled.Given as goal

abbrev pub invariant-loop-index : goal.invariant-loop-index
invariant-loop-index l = record {
  len : length l.tallies.items ≡ length l.initial.tallies.items;
  done : (i : ℕ) → i < l.index → IsSettled (tally_at l.initial.tallies.items i) (notes_at (map (λ n. n.items) l.noted-items) i) (tally_at l.tallies.items i);
  left : (i : ℕ) → l.index ≤ i → tally_at l.tallies.items i ≡ tally_at l.initial.tallies.items i;
}
