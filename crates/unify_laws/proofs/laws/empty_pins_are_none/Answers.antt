use Rattle.unify_laws.proofs.EmptyPins as pins
use Rattle.unify_laws.proofs.laws.empty_pins_are_none.Goals as goal

pub returns : goal.returns
returns c = pins.empty_pins_are_none
