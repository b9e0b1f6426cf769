use Rattle.kept_accounts.proofs.SparedLemmas.{named_left_or_spared}
use Rattle.kept_accounts.proofs.laws.named_numbers_are_left_or_spared.Goals as goal

pub returns : goal.returns
returns c = named_left_or_spared
