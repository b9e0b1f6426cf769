use Rattle.kept_names.proofs.AddUp.{all-add-up}
use Rattle.kept_names.proofs.laws.counts_add_up.Goals as goal

pub returns : goal.returns
returns c = all-add-up
