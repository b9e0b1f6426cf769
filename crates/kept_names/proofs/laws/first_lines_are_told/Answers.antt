use Rattle.kept_names.proofs.FirstTold.{first-told}
use Rattle.kept_names.proofs.MoreBack.{more-back}
use Rattle.kept_names.proofs.laws.first_lines_are_told.Goals as goal

pub returns : goal.returns
returns c = record { first = first-told; more = more-back }
