use Rattle.kept_accounts.proofs.ReservedLemmas.{numbers_decide}
use Rattle.kept_accounts.proofs.laws.numbers_decide_what_is_kept.Goals as goal

pub returns : goal.returns
returns c = numbers_decide
