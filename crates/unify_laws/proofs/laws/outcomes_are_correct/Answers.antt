use Rattle.unify_laws.proofs.Correct as correct
use Rattle.unify_laws.proofs.laws.outcomes_are_correct.Goals as goal

pub returns : goal.returns
returns c = correct.outcomes_are_correct
