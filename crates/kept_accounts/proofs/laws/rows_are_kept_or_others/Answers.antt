use Rattle.kept_accounts.proofs.OtherLemmas.{users_parted, groups_parted}
use Rattle.kept_accounts.proofs.laws.rows_are_kept_or_others.Goals as goal

pub returns : goal.returns
returns c = record { users = users_parted; groups = groups_parted }
