use Rattle.std.proofs.Common.{◌≡◌}
use Rattle.assignment.specs.Starting.{IsStarted}
use Rattle.assignment.proofs.solver.Solver.give_all.Given as goal

abbrev pub invariant-loop-name : goal.invariant-loop-name
invariant-loop-name l = record { rows : l.self.rows.now ≡ l.fn.self.rows.now; started : IsStarted l.self l.name }
