use Rattle.unify_laws.proofs.Correct as correct
use Rattle.unify_laws.proofs.laws.named_files_have_their_names.Goals as goal

pub returns : goal.returns
returns c = correct.named_files_have_their_names
