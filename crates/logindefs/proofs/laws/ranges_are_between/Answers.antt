use Rattle.logindefs.proofs.BetweenLemmas.{ranges-between}
use Rattle.logindefs.proofs.laws.ranges_are_between.Goals as goal

pub returns : goal.returns
returns c = ranges-between
