use Rattle.kept_accounts.proofs.OtherLemmas.{other_users_agree, other_groups_agree}
use Rattle.kept_accounts.proofs.laws.others_name_as_the_table.Goals as goal

pub returns : goal.returns
returns c = record { users = other_users_agree; groups = other_groups_agree }
