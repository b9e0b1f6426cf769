use Rattle.mergedfiles.proofs.HostUsers.{full_passwd_back}
use Rattle.mergedfiles.proofs.laws.full_passwd_reads_back.Goals as goal

pub returns : goal.returns
returns c = full_passwd_back
