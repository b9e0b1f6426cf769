use Rattle.std.proofs.Common.{◌≡◌, length}
use Rattle.assignment.specs.Solving.{IsServing}
use Rattle.assignment.proofs.solver.Solver.solved.Given as goal

abbrev pub invariant-loop-root : goal.invariant-loop-root
invariant-loop-root l = record {
  rows : l.solver.rows.now ≡ l.rows;
  position : length l.tree.position.items ≡ length l.rows.rows;
  serving : IsServing l.solver l.root;
}
