use Rattle.unify_laws.proofs.PassesCorrect as passes
use Rattle.unify_laws.proofs.laws.two_passes_are_correct.Goals as goal

pub returns : goal.returns
returns c = passes.two_passes_are_correct
