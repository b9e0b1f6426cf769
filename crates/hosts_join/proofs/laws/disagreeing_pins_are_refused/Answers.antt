use Rattle.hosts_join.proofs.StandingLaws.{pins_agree}
use Rattle.hosts_join.proofs.laws.disagreeing_pins_are_refused.Goals as goal

pub returns : goal.returns
returns c = pins_agree
