use Rattle.unify_texts.specs.Told.{told}
use Rattle.rehearsal.proofs.Rehearsed.{plan_refused, plan_answers}
use Rattle.rehearsal.proofs.rehearsing.rehearse.Goals as goal

pub returns-in-Err : goal.returns-in-Err
returns-in-Err c = plan_refused c.args.plan.now c.args.mtree.now (told c.in-Err.fault) c.in-Err.ensures

pub returns-in-Ok : goal.returns-in-Ok
returns-in-Ok c = plan_answers c.args.plan.now c.args.mtree.now c.in-Ok.plan c.in-Ok.ensures c.rehearse_plan.result c.rehearse_plan.ensures
