use Rattle.unify_apply.proofs.AskedBack.{root-told}
use Rattle.unify_apply.proofs.laws.root_is_told.Goals as goal

pub returns : goal.returns
returns c = root-told
