use Rattle.mergedfiles.proofs.HostKnown.{hosts_join_in_full}
use Rattle.mergedfiles.proofs.laws.hosts_join_in_full.Goals as goal

pub returns : goal.returns
returns c = hosts_join_in_full
