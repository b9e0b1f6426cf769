use Rattle.std.proofs.Common.{◌≡◌, ◌<◌, ◌++◌, length}
use Rattle.mtree_inv.specs.Fronts.{front_at, AreFronts, GrowTo}
use Rattle.mtree_inv.proofs.fronts.cut.Given as goal

abbrev pub invariant-loop-rest : goal.invariant-loop-rest
invariant-loop-rest l = record {
  fronts : AreFronts l.fronts;
  grow : GrowTo l.initial.fronts l.fronts;
  kept : l.front < length l.fronts;
  path : front_at l.fronts l.front ++ l.rest ≡ l.path;
  filled : length l.rest ≡ 0 → l.front ≡ 0;
}

abbrev pub decreases-loop-rest : goal.decreases-loop-rest
decreases-loop-rest l = length l.rest
