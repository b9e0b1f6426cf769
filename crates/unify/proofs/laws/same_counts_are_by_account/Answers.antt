use Rattle.unify.proofs.SameCountLaws.{same_counts_are_by_account}
use Rattle.unify.proofs.laws.same_counts_are_by_account.Goals as goal

pub returns : goal.returns
returns c = same_counts_are_by_account
