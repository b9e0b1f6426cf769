use Rattle.kept_names.proofs.AllTold.{all-told}
use Rattle.kept_names.proofs.laws.all_lines_are_told.Goals as goal

pub returns : goal.returns
returns c = all-told
