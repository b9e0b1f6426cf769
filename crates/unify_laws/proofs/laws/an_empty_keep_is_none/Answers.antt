use Rattle.unify_laws.proofs.EmptyKeep as keep
use Rattle.unify_laws.proofs.laws.an_empty_keep_is_none.Goals as goal

pub returns : goal.returns
returns c = record { sites = keep.empty_keep_is_none; counts = keep.empty_keep_counts_all }
