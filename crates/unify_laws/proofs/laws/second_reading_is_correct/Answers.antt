use Rattle.unify_laws.proofs.SecondReading as reading
use Rattle.unify_laws.proofs.laws.second_reading_is_correct.Goals as goal

pub returns : goal.returns
returns c = record { right = reading.second_reading_is_right; correct = reading.second_reading_is_correct }
