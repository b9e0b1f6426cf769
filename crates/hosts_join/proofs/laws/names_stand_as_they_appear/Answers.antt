use Rattle.hosts_join.proofs.SiteNames.{names_stand_as_they_appear}
use Rattle.hosts_join.proofs.laws.names_stand_as_they_appear.Goals as goal

pub returns : goal.returns
returns c = names_stand_as_they_appear
