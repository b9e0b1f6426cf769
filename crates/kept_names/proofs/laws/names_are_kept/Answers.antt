use Rattle.kept_names.proofs.Lost.{nothing-lost-is-kept}
use Rattle.kept_names.proofs.laws.names_are_kept.Goals as goal

pub returns : goal.returns
returns c = nothing-lost-is-kept
