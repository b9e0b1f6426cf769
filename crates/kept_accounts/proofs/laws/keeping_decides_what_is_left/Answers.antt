use Rattle.kept_accounts.proofs.ReservedLemmas.{keeping_decides}
use Rattle.kept_accounts.proofs.laws.keeping_decides_what_is_left.Goals as goal

pub returns : goal.returns
returns c = keeping_decides
