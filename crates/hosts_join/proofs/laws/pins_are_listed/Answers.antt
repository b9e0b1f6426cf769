use Rattle.hosts_join.proofs.PinLines.{pins_are_listed}
use Rattle.hosts_join.proofs.laws.pins_are_listed.Goals as goal

pub returns : goal.returns
returns c = pins_are_listed
