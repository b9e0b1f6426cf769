use Rattle.kept_accounts.proofs.SparedLemmas.{unowned_spared}
use Rattle.kept_accounts.proofs.laws.unowned_numbers_are_spared.Goals as goal

pub returns : goal.returns
returns c = unowned_spared
