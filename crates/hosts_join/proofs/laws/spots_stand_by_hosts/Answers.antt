use Rattle.hosts_join.proofs.SpotOrder.{spots_stand_by_hosts}
use Rattle.hosts_join.proofs.laws.spots_stand_by_hosts.Goals as goal

pub returns : goal.returns
returns c = spots_stand_by_hosts
