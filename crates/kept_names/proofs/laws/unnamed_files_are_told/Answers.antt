use Rattle.kept_names.proofs.Told.{unnamed_told}
use Rattle.kept_names.proofs.laws.unnamed_files_are_told.Goals as goal

pub returns : goal.returns
returns c = unnamed_told
