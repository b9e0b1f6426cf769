use Rattle.std.proofs.Common.{[]}
use Rattle.unify_texts.specs.Told.{told}
use Rattle.rehearsal.proofs.PlanRehearsals.{refused_whole}
use Rattle.rehearsal.proofs.rehearsing.rehearse_plan.Goals as goal

pub end-requires : goal.end-requires
end-requires c = (c.args.plan.now, c.args.mtree.now, c.in-Ok.ensures.stands c.args.plan.now [] c.in_ok-rehearsal.ensures)

pub returns-in-Ok : goal.returns-in-Ok
returns-in-Ok c = c.end.ensures c.args.plan.now c.args.mtree.now (c.in-Ok.ensures.stands c.args.plan.now [] c.in_ok-rehearsal.ensures)

pub returns : goal.returns
returns c = refused_whole c.args.plan.now c.args.mtree.now (told c.in-Err.fault) (c.in-Err.ensures.refused c.args.plan.now [] c.in_ok-rehearsal.ensures)
