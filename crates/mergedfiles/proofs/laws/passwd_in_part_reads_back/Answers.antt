use Rattle.mergedfiles.proofs.ReadUsers.{passwd_in_part_back}
use Rattle.mergedfiles.proofs.laws.passwd_in_part_reads_back.Goals as goal

pub returns : goal.returns
returns c = passwd_in_part_back
