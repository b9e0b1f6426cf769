use Rattle.std.proofs.Common.{refl}
use Rattle.reown_plan.proofs.Lawful.{plan-lawful}
use Rattle.reown_plan.proofs.laws.plans_read_back.Goals as goal

pub returns : goal.returns
returns c = λ hosts site m host files name by_user by_group lawful. (plan-lawful hosts site m host files name by_user by_group lawful, refl)
