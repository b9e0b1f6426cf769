use Rattle.hosts_join.proofs.FaultOrder.{users_are_told_first}
use Rattle.hosts_join.proofs.laws.users_are_told_first.Goals as goal

pub returns : goal.returns
returns c = users_are_told_first
