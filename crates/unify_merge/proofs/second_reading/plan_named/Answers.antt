use Rattle.std.proofs.Common.{refl}
use Rattle.unify_merge.specs.SecondReading.{PlanBrokeOff}
use Rattle.unify_merge.proofs.BreakingOff.{finishes_none, has_read_none, on_err}
use Rattle.unify_merge.proofs.second_reading.plan_named.Goals as goal

pub returns-in_err-name-clause-left : goal.returns-in_err-name-clause-left
returns-in_err-name-clause-left g c =
    let old = g.F.ReadFiles.ledger c.args.files.now in
    on_err c.from_residual.result (PlanBrokeOff old old) (record { reads = has_read_none old.read old refl; no_file = finishes_none old old refl refl refl })
