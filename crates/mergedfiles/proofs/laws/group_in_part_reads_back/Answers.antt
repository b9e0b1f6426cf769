use Rattle.mergedfiles.proofs.ReadGroups.{group_in_part_back}
use Rattle.mergedfiles.proofs.laws.group_in_part_reads_back.Goals as goal

pub returns : goal.returns
returns c = group_in_part_back
