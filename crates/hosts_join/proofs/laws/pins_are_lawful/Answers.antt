use Rattle.hosts_join.proofs.SiteLemmas.{pins_are_pins}
use Rattle.hosts_join.proofs.laws.pins_are_lawful.Goals as goal

pub returns : goal.returns
returns c = pins_are_pins
