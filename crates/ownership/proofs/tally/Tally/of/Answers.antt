use Rattle.std.proofs.Common.{◌≡◌, List, map, sym, subst, ap, ◌∙◌, arith}
use Rattle.std.proofs.lemmas.List.{take_all}
use Rattle.ownership.specs.declared.tally.Cell.{Cell}
use Rattle.ownership.specs.Cells.{cell_of}
use Rattle.ownership.specs.Counts.{count_in, has_cell}
use Rattle.ownership.specs.Potentials.{AscendsByNumber}
use Rattle.ownership.proofs.CellLemmas.{ascends-zero, count_in-zero, has_cell-zero, zero_cell}
use Rattle.ownership.proofs.tally.Tally.of.Goals as goal

pub invariant_of-result : goal.invariant_of-result
invariant_of-result c =
    let numbers = c.args.numbers.now in
    let all : c.loop-number.cells.items ≡ map zero_cell numbers = c.loop-number.invariant ∙ ap (map zero_cell) (take_all c.loop-number.number-index numbers (omega arith)) in
    subst (λ (cs : List Cell). AscendsByNumber (map cell_of cs)) (sym all) (ascends-zero numbers c.requires)

pub returns-clause-cells : goal.returns-clause-cells
returns-clause-cells c = λ v.
    let numbers = c.args.numbers.now in
    let all : c.loop-number.cells.items ≡ map zero_cell numbers = c.loop-number.invariant ∙ ap (map zero_cell) (take_all c.loop-number.number-index numbers (omega arith)) in
    ap (λ (cs : List Cell). has_cell (map cell_of cs) v) all ∙ has_cell-zero numbers v

pub returns-clause-zero : goal.returns-clause-zero
returns-clause-zero c = λ v.
    let numbers = c.args.numbers.now in
    let all : c.loop-number.cells.items ≡ map zero_cell numbers = c.loop-number.invariant ∙ ap (map zero_cell) (take_all c.loop-number.number-index numbers (omega arith)) in
    ap (λ (cs : List Cell). count_in (map cell_of cs) v) all ∙ count_in-zero numbers v
