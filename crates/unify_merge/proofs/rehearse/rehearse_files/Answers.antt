use Rattle.unify_merge.proofs.Readings.{if_err}
use Rattle.unify_merge.proofs.Rehearsals.{rehearsal_stopped}
use Rattle.unify_merge.proofs.rehearse.rehearse_files.Goals as goal

pub returns-clause-stopped : goal.returns-clause-stopped
returns-clause-stopped g c =
    let old = g.F.ReadFiles.ledger c.args.files.now in
    let new = g.F.ReadFiles.ledger c.rehearse_plan.new.files in
    if_err c.rehearse_plan.result _ _ (λ fault stops. rehearsal_stopped c.args.plan.now c.in_ok-plan.plan old new fault c.in_ok-plan.ensures stops) c.rehearse_plan.ensures.stopped
