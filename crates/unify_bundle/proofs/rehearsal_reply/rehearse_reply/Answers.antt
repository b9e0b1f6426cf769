use Rattle.unify_bundle.proofs.Rehearsed.{records_told, refusal_told}
use Rattle.unify_bundle.proofs.rehearsal_reply.rehearse_reply.Goals as goal

pub returns-in-Ok : goal.returns-in-Ok
returns-in-Ok c = records_told c.args.plan.now c.args.mtree.now c.in-Ok.records c.records_reply.result c.in-Ok.ensures c.records_reply.ensures

pub returns-in-Err : goal.returns-in-Err
returns-in-Err c = refusal_told c.args.plan.now c.args.mtree.now c.in-Err.fault c.refused.result c.in-Err.ensures c.refused.ensures
