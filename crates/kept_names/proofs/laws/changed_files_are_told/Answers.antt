use Rattle.kept_names.proofs.Told.{changed_told}
use Rattle.kept_names.proofs.laws.changed_files_are_told.Goals as goal

pub returns : goal.returns
returns c = changed_told
