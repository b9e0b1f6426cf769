use Rattle.unify_laws.proofs.Owned as owned
use Rattle.unify_laws.proofs.laws.owners_agree.Goals as goal

pub returns : goal.returns
returns c = owned.owners_agree
