use Rattle.unify_laws.proofs.Agreeing as agreeing
use Rattle.unify_laws.proofs.laws.printed_plans_are_rehearsed.Goals as goal

pub returns : goal.returns
returns c = agreeing.printed_plans_are_rehearsed
