use Rattle.hosts_join.proofs.PinLines.{accepted_pins_may_stand, first_bad_pin_is_told}
use Rattle.hosts_join.proofs.laws.bad_pins_are_told.Goals as goal

pub returns : goal.returns
returns c = record { accepted = accepted_pins_may_stand; refused = first_bad_pin_is_told }
