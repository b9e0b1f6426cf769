use Rattle.unify_apply.proofs.AskedBack.{fits-told, names-told}
use Rattle.unify_apply.proofs.laws.machines_are_told.Goals as goal

pub returns : goal.returns
returns c = record { names = names-told; fits = fits-told }
