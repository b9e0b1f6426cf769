use Rattle.mergedfiles.proofs.HostGroups.{host_group_back}
use Rattle.mergedfiles.proofs.laws.host_group_reads_back.Goals as goal

pub returns : goal.returns
returns c = host_group_back
