use Rattle.accounts.proofs.AcceptedLemmas.{passwd_accepted, group_accepted}
use Rattle.accounts.proofs.laws.a_table_is_accepted.Goals as goal

pub returns : goal.returns
returns c = record { passwd = passwd_accepted; group = group_accepted }
