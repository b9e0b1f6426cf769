use Rattle.kept_names.proofs.Told.{left_told}
use Rattle.kept_names.proofs.laws.left_numbers_are_told.Goals as goal

pub returns : goal.returns
returns c = left_told
