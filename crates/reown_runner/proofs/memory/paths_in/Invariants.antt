use Rattle.std.proofs.Common.{◌≡◌, map, take}
use Rattle.reown_runner.proofs.memory.paths_in.Given as goal

abbrev pub invariant-loop-entry : goal.invariant-loop-entry
invariant-loop-entry l = l.paths ≡ map (λ e. e.path) (take l.entry-index l.entries)
