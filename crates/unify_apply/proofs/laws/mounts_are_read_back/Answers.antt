use Rattle.unify_apply.proofs.MountsBack.{mounts-back}
use Rattle.unify_apply.proofs.PathLemmas.{path-is-back}
use Rattle.unify_apply.proofs.laws.mounts_are_read_back.Goals as goal

pub returns : goal.returns
returns c = record { path = path-is-back; mounts = mounts-back }
