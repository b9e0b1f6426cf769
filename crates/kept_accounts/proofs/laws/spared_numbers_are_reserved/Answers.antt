use Rattle.kept_accounts.proofs.SparedLemmas.{spared_reserved}
use Rattle.kept_accounts.proofs.laws.spared_numbers_are_reserved.Goals as goal

pub returns : goal.returns
returns c = spared_reserved
