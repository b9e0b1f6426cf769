use Rattle.hosts_join.proofs.ReservedLemmas.{claims-and-reserved}
use Rattle.hosts_join.proofs.reserving.given_away.Goals as goal

pub returns-clause-numbers : goal.returns-clause-numbers
returns-clause-numbers c = claims-and-reserved c.ascending_with.result c.in_ok-ranges.ranges.items c.args.claims.now c.args.reserved.now c.in_ok-ranges.ensures c.ascending_with.ensures.numbers
