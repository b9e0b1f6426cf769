use Rattle.kept_names.proofs.Told.{missing_told}
use Rattle.kept_names.proofs.laws.missing_files_are_told.Goals as goal

pub returns : goal.returns
returns c = missing_told
