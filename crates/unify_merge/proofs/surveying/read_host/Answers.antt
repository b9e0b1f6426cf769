use Rattle.std.proofs.Common.{◌≤◌, ◌++◌, ◌∷◌, [], length, ap, ◌∙◌, arith}
use Rattle.std.proofs.lemmas.Result.{err_from_is_err_and}
use Rattle.unify_merge.specs.FirstReading.{most_inventory_bytes}
use Rattle.unify_merge.specs.Ledger.{Ledger, Reading}
use Rattle.unify_merge.proofs.Stops.{piece_ended}
use Rattle.unify_merge.proofs.surveying.read_host.Goals as goal

pub returns-in_err-next_piece-clause-stopped : goal.returns-in_err-next_piece-clause-stopped
returns-in_err-next_piece-clause-stopped g c =
    let inv = c.loop-survey.invariant in
    let p = err_from_is_err_and c.from_residual-in_err-next_piece.result c.from_residual-in_err-next_piece.ensures.1 in
    let r : Reading = record { host = c.args.index; text = inv.text } in
    rw (p.1, p.2) (piece_ended _ r.host _ inv.text _ _ _ _ inv.may (c.in_err-next_piece.ensures.stopped r inv.reading))

pub returns-clause-read : goal.returns-clause-read
returns-clause-read g c =
    let inv = c.loop-survey.invariant in
    let r : Reading = record { host = c.args.index; text = inv.text } in
    let goes = rw c.if-branch.false at c.in_ok-next_piece.ensures.read r inv.reading in
    let few : length inv.text ≤ most_inventory_bytes = omega (arith, inv.may) in
    (inv.text, ap (λ (l : Ledger). l.read) goes ∙ ap (λ rs. rs ++ r ∷ []) inv.read, c.in_ok-survey_end.ensures.read inv.text inv.stands, few)
