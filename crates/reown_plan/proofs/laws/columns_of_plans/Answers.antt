use Rattle.std.proofs.Common.{refl}
use Rattle.std.specs.Fmt.{digits}
use Rattle.reown_plan.proofs.Columns.{numbers_stand}
use Rattle.reown_plan.proofs.laws.columns_of_plans.Goals as goal

pub returns-clause-numbers : goal.returns-clause-numbers
returns-clause-numbers c = numbers_stand

pub returns-clause-example : goal.returns-clause-example
unfolding digits
returns-clause-example c = refl
