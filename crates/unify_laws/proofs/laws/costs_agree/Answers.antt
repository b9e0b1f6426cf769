use Rattle.unify_laws.proofs.Costs as costs
use Rattle.unify_laws.proofs.laws.costs_agree.Goals as goal

pub returns : goal.returns
returns c = costs.costs_agree
