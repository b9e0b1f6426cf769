use Rattle.std.specs.List.{All}
use Rattle.assignment.specs.Starting.{IsOwned}
use Rattle.assignment.proofs.solver.Solver.has_owners.Given as goal

-- if the entries that are left are somebody's, all are
abbrev pub invariant-loop-number : goal.invariant-loop-number
invariant-loop-number l = All (IsOwned l.self.pairs) l.number-iterator → All (IsOwned l.self.pairs) l.self.duals.z.entries
