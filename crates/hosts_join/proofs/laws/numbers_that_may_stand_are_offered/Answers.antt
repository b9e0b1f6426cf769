use Rattle.hosts_join.proofs.StandingLaws.{numbers_offered}
use Rattle.hosts_join.proofs.laws.numbers_that_may_stand_are_offered.Goals as goal

pub returns : goal.returns
returns c = numbers_offered
