use Rattle.mergedfiles.proofs.FirstHosts.{users_decided, groups_decided}
use Rattle.mergedfiles.proofs.laws.first_host_decides.Goals as goal

pub returns : goal.returns
returns c = record { users = users_decided; groups = groups_decided }
