use Rattle.std.proofs.Common.{refl}
use Rattle.unify_apply.proofs.Statuses.{found-told, failed-told}
use Rattle.unify_apply.proofs.laws.statuses_are_told.Goals as goal

pub returns : goal.returns
returns c = record { found = found-told; failed = failed-told; call = λ number. refl; root = λ number. refl; modes = λ number. refl; owner = λ owner. refl }
