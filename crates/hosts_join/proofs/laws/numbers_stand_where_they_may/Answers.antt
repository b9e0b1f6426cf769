use Rattle.hosts_join.proofs.StandingLaws.{numbers_stand}
use Rattle.hosts_join.proofs.laws.numbers_stand_where_they_may.Goals as goal

pub returns : goal.returns
returns c = numbers_stand
