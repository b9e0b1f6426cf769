use Rattle.std.proofs.Common.{◌≡◌, map, take}
use Rattle.ownership.proofs.CellLemmas.{zero_cell}
use Rattle.ownership.proofs.tally.Tally.of.Given as goal

abbrev pub invariant-loop-number : goal.invariant-loop-number
invariant-loop-number l = l.cells.items ≡ map zero_cell (take l.number-index l.numbers)
