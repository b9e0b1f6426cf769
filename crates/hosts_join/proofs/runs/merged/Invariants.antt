use Rattle.std.proofs.Common.{◌≡◌, ℕ, ◌<◌, ◌≤◌, length, get_or, take}
use Rattle.std.specs.Prelude.{All}
use Rattle.logindefs.specs.declared.ranges.IdRange.{IdRange}
use Rattle.hosts_join.specs.RangeLists.{lies_in_some}
use Rattle.hosts_join.specs.RunsInside.{AreInOrder}
use Rattle.hosts_join.proofs.runs.merged.Given as goal

abbrev pub invariant-loop-range : goal.invariant-loop-range
invariant-loop-range l = record {
  apart : AreInOrder l.runs.items;
  behind : (k : ℕ) (d : IdRange) → l.range-index ≤ k → k < length l.sorted → All (λ run. run.low ≤ (get_or l.sorted k d).low) l.runs.items;
  same : (number : ℕ) → lies_in_some l.runs.items number ≡ lies_in_some (take l.range-index l.sorted) number;
}
