use Rattle.mergedfiles.proofs.HostGroups.{full_group_back}
use Rattle.mergedfiles.proofs.laws.full_group_reads_back.Goals as goal

pub returns : goal.returns
returns c = full_group_back
