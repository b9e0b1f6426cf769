use Rattle.std.proofs.Common.{◌≡◌, ℕ, ◌<◌, length}
use Rattle.candidates.specs.Fill.{gift}
use Rattle.candidates.specs.Settled.{settled}
use Rattle.candidates.proofs.fill.settle.Given as goal

abbrev pub invariant-loop-index : goal.invariant-loop-index
invariant-loop-index l = record {
  len : length l.numbers.items ≡ l.index;
  same : (i : ℕ) → i < l.index → gift l.numbers.items i ≡ settled l.names l.given i;
}
