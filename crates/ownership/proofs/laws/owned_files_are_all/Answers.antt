use Rattle.ownership.proofs.CostLemmas.{all-owned}
use Rattle.ownership.proofs.laws.owned_files_are_all.Goals as goal

pub returns : goal.returns
returns c = all-owned
