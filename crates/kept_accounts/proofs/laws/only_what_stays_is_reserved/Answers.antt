use Rattle.kept_accounts.proofs.OnlyLemmas.{only_what_stays}
use Rattle.kept_accounts.proofs.laws.only_what_stays_is_reserved.Goals as goal

pub returns : goal.returns
returns c = only_what_stays
