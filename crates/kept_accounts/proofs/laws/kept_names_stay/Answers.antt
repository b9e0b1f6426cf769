use Rattle.kept_accounts.proofs.StayLemmas.{kept_names_stay}
use Rattle.kept_accounts.proofs.laws.kept_names_stay.Goals as goal

pub returns : goal.returns
returns c = kept_names_stay
