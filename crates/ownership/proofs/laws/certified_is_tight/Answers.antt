use Rattle.ownership.proofs.Optimal as optimal
use Rattle.ownership.proofs.laws.certified_is_tight.Goals as goal

pub returns : goal.returns
returns c = optimal.certified_is_tight
