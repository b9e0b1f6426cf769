use Rattle.kept_accounts.proofs.ReservedLemmas.{kept_reserved}
use Rattle.kept_accounts.proofs.laws.kept_numbers_are_reserved.Goals as goal

pub returns : goal.returns
returns c = kept_reserved
