use Rattle.hosts_join.proofs.ReservedLaws.{sites_leave_spared}
use Rattle.hosts_join.proofs.laws.a_site_leaves_spared_numbers.Goals as goal

pub returns : goal.returns
returns c = sites_leave_spared
