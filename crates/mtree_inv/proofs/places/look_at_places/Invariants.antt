use Rattle.std.proofs.Common.{◌≡◌, true, length}
use Rattle.mtree_inv.specs.Places.{start_of, AreTaken, IsToldNowhere, IsAlone}
use Rattle.mtree_inv.proofs.places.look_at_places.Given as goal

abbrev pub invariant-loop-probe : goal.invariant-loop-probe
invariant-loop-probe l = record {
  taken : AreTaken l.places (start_of (length l.places) l.cut) l.probe;
  nowhere : IsToldNowhere l.rows l.places l.cut l.probe;
  alone : l.is_alone ≡ true → IsAlone l.rows l.places l.cut l.probe;
}
