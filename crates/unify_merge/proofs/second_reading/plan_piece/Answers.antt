use Rattle.std.proofs.Common.{◌≡◌, ◌++◌, ℕ, List, ap, ◌∙◌}
use Rattle.std.proofs.lemmas.Result.{err_from_is_err_and}
use Rattle.unify_merge.specs.Ledger.{with_bytes}
use Rattle.unify_merge.proofs.Changes.{piece_stopped}
use Rattle.unify_merge.proofs.second_reading.plan_piece.Goals as goal

pub returns-in_err-piece-clause-told : goal.returns-in_err-piece-clause-told
returns-in_err-piece-clause-told g c =
    let p = err_from_is_err_and c.from_residual.result c.from_residual.ensures.1 in
    rw (p.1, p.2) (λ host next.
    piece_stopped host (c.args.solved.now.text ++ c.args.bytes.now) c.in_err-piece.field-0.0 (c.in_err-piece.ensures.told host next))

pub returns-clause-planned : goal.returns-clause-planned
returns-clause-planned g c = λ host next.
    let p = c.in_ok-piece.ensures.planned host next in
    let more = p.0 in
    let written : c.deref.result.now ≡ more = c.deref.ensures.value ∙ p.1 ∙ ap (λ (xs : List ℕ). xs ++ more) c.clear.ensures.items in
    (more, c.in_ok-append.ensures.written ∙ ap (λ bytes. with_bytes bytes (g.F.ReadFiles.ledger c.args.files.now)) written, p.2.0)
