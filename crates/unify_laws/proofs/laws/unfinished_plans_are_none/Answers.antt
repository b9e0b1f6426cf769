use Rattle.unify_laws.proofs.Unfinished as unfinished
use Rattle.unify_laws.proofs.laws.unfinished_plans_are_none.Goals as goal

pub returns : goal.returns
returns c = unfinished.unfinished_plans_are_none
