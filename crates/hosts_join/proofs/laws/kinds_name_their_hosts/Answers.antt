use Rattle.hosts_join.proofs.SiteNames.{kinds_name_their_hosts}
use Rattle.hosts_join.proofs.laws.kinds_name_their_hosts.Goals as goal

pub returns : goal.returns
returns c = kinds_name_their_hosts
