use Rattle.hosts_join.proofs.ReservedLaws.{pins_reserve_nothing}
use Rattle.hosts_join.proofs.laws.read_pins_reserve_nothing.Goals as goal

pub returns : goal.returns
returns c = pins_reserve_nothing
