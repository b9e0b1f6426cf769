use Rattle.std.proofs.Common.{sym}
use Rattle.reown_plan.proofs.Repeats.{path_there}
use Rattle.reown_plan.proofs.places.path_of.Goals as goal

pub returns-in-Some : goal.returns-in-Some
returns-in-Some c = sym (path_there c.args.records.now c.args.place c.in-Some.planned.now c.in-Some.ensures.lookup.3.0 c.in-Some.ensures.lookup.1)
