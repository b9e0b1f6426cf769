use Rattle.kept_names.proofs.Told.{new_told}
use Rattle.kept_names.proofs.laws.new_files_are_told.Goals as goal

pub returns : goal.returns
returns c = new_told
