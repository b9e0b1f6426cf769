use Rattle.unify_texts.proofs.KeptNames as kept
use Rattle.unify_texts.proofs.laws.kept_names_are_seen.Goals as goal

pub returns : goal.returns
returns c = kept.kept_names_seen
