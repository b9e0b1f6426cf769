use Rattle.std.proofs.Common.{◌≡◌, ℕ, ◌==◌, ◌<◌, true, false, List, map, get_or, sym, ◌∙◌, ap, arith, Option, Some, length, set, subst}
use Rattle.std.specs.List.{position}
use Rattle.std.proofs.lemmas.List.Quantifiers.{position-Some}
use Rattle.ownership.specs.declared.tally.Cell.{Cell}
use Rattle.ownership.specs.Cells.{cell_of}
use Rattle.ownership.specs.Potentials.{AscendsByNumber}
use Rattle.ownership.specs.Counts.{has_cell, count_in}
use Rattle.ownership.proofs.CellLemmas.{has_cell-bump, count_in-bump, count-here, bumped, no-position, has_cell-any, ascends-bump}
use Rattle.std.proofs.lemmas.Bool.{both_ways}
use Rattle.ownership.proofs.tally.count_more.Goals as goal

found : (cs : List Cell) (slice : List Cell) (n index : ℕ) (o : Option ℕ) (d : Cell) → slice ≡ cs → o ≡ position (λ c. n == c.number) slice → o ≡ Some index
    → (index < length cs) × ((n == (get_or cs index d).number) ≡ true) × ((j : ℕ) → j < index → (n == (get_or cs j d).number) ≡ false)
found cs slice n index o d e p s = position-Some (λ (c : Cell). n == c.number) cs index d (ap (position (λ (c : Cell). n == c.number)) (sym e) ∙ sym p ∙ s)

pub overflow_add-index_mut : goal.overflow_add-index_mut
overflow_add-index_mut c =
    let cs = c.args.cells.now.items in
    let d = c.index_mut.result.now in
    let f = found cs c.as_slice.result.now c.args.number c.in-Some.index c.index_of.result d c.as_slice.ensures.value c.index_of.ensures c.in-Some.is in
    let here = count-here cs c.in-Some.index c.args.number d f.0 f.1 f.2 in
    let here' : count_in (map cell_of cs) c.args.number ≡ d.files = here ∙ ap (λ (x : Cell). x.files) (sym c.index_mut.ensures.value) in
    omega (arith, here', c.requires.room)

pub returns-in-Some-clause-ascending : goal.returns-in-Some-clause-ascending
returns-in-Some-clause-ascending c =
    let cs = c.args.cells.now.items in
    subst (λ (x : Cell). AscendsByNumber (map cell_of (set cs c.in-Some.index (bumped c.args.files x)))) (sym c.index_mut.ensures.value) (ascends-bump cs c.in-Some.index c.args.files c.index_mut.result.now c.requires.ascending)

pub returns-in-Some-clause-cells : goal.returns-in-Some-clause-cells
returns-in-Some-clause-cells c = λ v.
    let d : Cell = c.index_mut.result.now in
    ap (λ (x : Cell). has_cell (map cell_of (set c.args.cells.now.items c.in-Some.index (bumped c.args.files x))) v) c.index_mut.ensures.value ∙ has_cell-bump c.args.cells.now.items c.in-Some.index v c.args.files d

pub returns-in-Some-clause-counts : goal.returns-in-Some-clause-counts
returns-in-Some-clause-counts c = λ v.
    let cs = c.args.cells.now.items in
    let d : Cell = c.index_mut.result.now in
    let f = found cs c.as_slice.result.now c.args.number c.in-Some.index c.index_of.result d c.as_slice.ensures.value c.index_of.ensures c.in-Some.is in
    ap (λ (x : Cell). count_in (map cell_of (set cs c.in-Some.index (bumped c.args.files x))) v) c.index_mut.ensures.value ∙ count_in-bump cs c.in-Some.index c.args.number v c.args.files d f.0 f.1 f.2

pub returns-in-None-clause-counts : goal.returns-in-None-clause-counts
returns-in-None-clause-counts c = λ v.
    let cs = c.args.cells.now.items in
    let none = no-position (λ (x : Cell). c.args.number == x.number) cs (ap (position (λ (x : Cell). c.args.number == x.number)) (sym c.as_slice.ensures.value) ∙ sym c.index_of.ensures ∙ c.in-None.is) in
    absurd (both_ways _ none (sym (has_cell-any cs c.args.number) ∙ c.requires.there))
