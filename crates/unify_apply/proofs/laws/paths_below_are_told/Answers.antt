use Rattle.unify_apply.proofs.PathLaws.{below-told, paths-told, slash-taken}
use Rattle.unify_apply.proofs.laws.paths_below_are_told.Goals as goal

pub returns : goal.returns
returns c = record { paths = paths-told; slash = slash-taken; mounts = below-told }
