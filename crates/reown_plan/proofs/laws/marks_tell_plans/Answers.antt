use Rattle.reown_plan.proofs.Marks.{marks_compare, marks_tell_hosts, marks_tell_texts}
use Rattle.reown_plan.proofs.laws.marks_tell_plans.Goals as goal

pub returns-clause-equal : goal.returns-clause-equal
returns-clause-equal c = marks_compare

pub returns-clause-hosts : goal.returns-clause-hosts
returns-clause-hosts c = marks_tell_hosts

pub returns-clause-texts : goal.returns-clause-texts
returns-clause-texts c = marks_tell_texts
