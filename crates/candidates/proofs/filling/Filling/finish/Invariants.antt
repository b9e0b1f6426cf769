use Rattle.std.proofs.Common.{◌≡◌, ℕ, ◌<◌, length, get_or, Some}
use Rattle.candidates.specs.Fill.{gift}
use Rattle.candidates.proofs.filling.Filling.finish.Given as goal

abbrev pub invariant-loop-number : goal.invariant-loop-number
invariant-loop-number l = record {
  len : length l.finished.items ≡ l.number-index;
  same : (i : ℕ) → i < l.number-index → gift l.number-items i ≡ Some (get_or l.finished.items i 0);
}
