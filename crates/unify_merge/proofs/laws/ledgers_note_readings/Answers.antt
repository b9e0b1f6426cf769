use Rattle.unify_merge.proofs.ReadingsNoted.{readings-noted}
use Rattle.unify_merge.proofs.laws.ledgers_note_readings.Goals as goal

pub returns : goal.returns
returns c = readings-noted
