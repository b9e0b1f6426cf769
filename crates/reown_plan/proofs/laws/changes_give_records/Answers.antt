use Rattle.reown_plan.proofs.Writing.{one_line}
use Rattle.reown_plan.proofs.laws.changes_give_records.Goals as goal

pub returns : goal.returns
returns c = one_line
