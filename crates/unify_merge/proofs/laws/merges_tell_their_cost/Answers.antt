use Rattle.unify_merge.proofs.CostTold as cost
use Rattle.unify_merge.proofs.laws.merges_tell_their_cost.Goals as goal

pub returns : goal.returns
returns c = cost.merges_tell_their_cost
