use Rattle.unify_texts.proofs.MapPins.{written_pins}
use Rattle.unify_texts.proofs.laws.written_maps_are_pins.Goals as goal

pub returns : goal.returns
returns c = written_pins
