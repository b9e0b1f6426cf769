use Rattle.mergedfiles.proofs.JoinedUsers.{of_all_hosts}
use Rattle.mergedfiles.proofs.laws.merged_users_are_of_all_hosts.Goals as goal

pub returns : goal.returns
returns c = of_all_hosts
