use Rattle.std.proofs.Common.{◌≡◌, ◌<◌, length, get_or, sym, ap, ◌∙◌, arith}
use Rattle.std.proofs.lemmas.Bool.{eqb-true}
use Rattle.candidates.specs.declared.Candidate.{Candidate}
use Rattle.candidates.specs.Rows.{weight_in}
use Rattle.assignment.proofs.Weigh.{weight_at}
use Rattle.assignment.proofs.start.has_weight.Goals as goal

pub returns-then-candidate-number : goal.returns-then-candidate-number
returns-then-candidate-number c = λ e.
    let row = c.args.row.now in
    let i = c.loop-candidate.candidate-index in
    let z : Candidate = record { number = 0; weight = 0 } in
    let l : i < length row = c.loop-candidate-test.true in
    let same : (get_or row i z).number ≡ c.args.number = omega (arith, c.if-candidate-number.true) in
    ap (weight_in row) (sym same) ∙ weight_at row c.requires i z l ∙ eqb-true _ _ e
