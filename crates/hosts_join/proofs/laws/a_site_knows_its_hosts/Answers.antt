use Rattle.hosts_join.proofs.Knowing.{sites_know}
use Rattle.hosts_join.proofs.laws.a_site_knows_its_hosts.Goals as goal

pub returns : goal.returns
returns c = sites_know
