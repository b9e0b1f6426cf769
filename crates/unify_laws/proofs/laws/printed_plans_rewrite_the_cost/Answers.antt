use Rattle.unify_laws.proofs.Correct.{printed_plans_rewrite_the_cost}
use Rattle.unify_laws.proofs.laws.printed_plans_rewrite_the_cost.Goals as goal

pub returns : goal.returns
returns c = printed_plans_rewrite_the_cost
