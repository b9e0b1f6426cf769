use Rattle.inventory_text.proofs.PathsOfNames.{dot-dot-refused, paths-of-names}
use Rattle.inventory_text.proofs.laws.paths_are_of_names.Goals as goal

pub returns : goal.returns
returns c = record { names = paths-of-names; dot_dot = dot-dot-refused }
