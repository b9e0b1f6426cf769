use Rattle.mtree_inv.specs.Places.{AreTaken}
use Rattle.mtree_inv.proofs.places.free_place.Given as goal

abbrev pub invariant-loop-probe : goal.invariant-loop-probe
invariant-loop-probe l = AreTaken l.places l.start l.probe
