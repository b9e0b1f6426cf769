use Rattle.kept_accounts.proofs.OnlyLemmas.{spares_its_own}
use Rattle.kept_accounts.proofs.laws.a_host_spares_what_is_its_own.Goals as goal

pub returns : goal.returns
returns c = spares_its_own
