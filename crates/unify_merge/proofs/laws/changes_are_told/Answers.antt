use Rattle.unify_merge.proofs.ChangesTold as changes
use Rattle.unify_merge.proofs.laws.changes_are_told.Goals as goal

pub returns : goal.returns
returns c = changes.changes_are_told
