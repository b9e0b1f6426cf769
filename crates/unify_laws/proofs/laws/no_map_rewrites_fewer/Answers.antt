use Rattle.unify_laws.proofs.Agreeing as agreeing
use Rattle.unify_laws.proofs.laws.no_map_rewrites_fewer.Goals as goal

pub returns : goal.returns
returns c = agreeing.no_map_rewrites_fewer
