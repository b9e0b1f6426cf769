use Rattle.unify.proofs.KeptLaws as kept
use Rattle.unify.proofs.laws.outcomes_tell_kept_names.Goals as goal

pub returns : goal.returns
returns c = kept.outcomes_tell_kept_names
