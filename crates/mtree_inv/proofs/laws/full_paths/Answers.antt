use Rattle.mtree_inv.proofs.FullPathLemmas.{first_part, last_part}
use Rattle.mtree_inv.proofs.laws.full_paths.Goals as goal

pub returns : goal.returns
returns c = record { directory = first_part; name = last_part }
