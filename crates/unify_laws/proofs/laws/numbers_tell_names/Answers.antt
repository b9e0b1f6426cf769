use Rattle.unify_laws.proofs.Correct as correct
use Rattle.unify_laws.proofs.laws.numbers_tell_names.Goals as goal

pub returns : goal.returns
returns c = correct.numbers_tell_names
