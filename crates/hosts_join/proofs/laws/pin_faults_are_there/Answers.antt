use Rattle.hosts_join.proofs.PinFaults.{disagreeing_pins_are_there, reserved_pins_are_there}
use Rattle.hosts_join.proofs.laws.pin_faults_are_there.Goals as goal

pub returns : goal.returns
returns c = record { disagree = disagreeing_pins_are_there; reserved = reserved_pins_are_there }
