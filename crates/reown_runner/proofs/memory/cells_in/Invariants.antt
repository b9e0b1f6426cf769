use Rattle.std.proofs.Common.{◌≡◌, map, take}
use Rattle.reown_plan.specs.Owners.{owner_of}
use Rattle.reown_runner.specs.Memory.{settled_cell}
use Rattle.reown_runner.proofs.memory.cells_in.Given as goal

abbrev pub invariant-loop-entry : goal.invariant-loop-entry
invariant-loop-entry l = l.cells.items ≡ map (λ e. settled_cell (owner_of e)) (take l.entry-index l.entries)
