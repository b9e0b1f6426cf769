use Rattle.unify.proofs.Rewritten.{plans_rewrite_the_cost}
use Rattle.unify.proofs.laws.plans_rewrite_the_cost.Goals as goal

pub returns : goal.returns
returns c = plans_rewrite_the_cost
