use Rattle.mergedfiles.proofs.ReadGroups.{group_reads_back}
use Rattle.mergedfiles.proofs.laws.merged_group_reads_back.Goals as goal

pub returns : goal.returns
returns c = group_reads_back
