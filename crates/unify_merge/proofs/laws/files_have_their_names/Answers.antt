use Rattle.unify_merge.proofs.NamedFiles as named
use Rattle.unify_merge.proofs.laws.files_have_their_names.Goals as goal

pub returns : goal.returns
returns c = named.files_have_their_names
