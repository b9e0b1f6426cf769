use Rattle.kept_names.proofs.CountsBack.{counts-back}
use Rattle.kept_names.proofs.laws.counts_are_read_back.Goals as goal

pub returns : goal.returns
returns c = counts-back
