use Rattle.std.proofs.Common.{◌≡◌, ◌++◌}
use Rattle.assignment.proofs.duals.listed.Given as goal

abbrev pub invariant-loop-number : goal.invariant-loop-number
invariant-loop-number l = l.list.items ++ l.number-iterator ≡ l.z.entries
