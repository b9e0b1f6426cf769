use Rattle.mergedfiles.proofs.ReadUsers.{passwd_reads_back}
use Rattle.mergedfiles.proofs.laws.merged_passwd_reads_back.Goals as goal

pub returns : goal.returns
returns c = passwd_reads_back
