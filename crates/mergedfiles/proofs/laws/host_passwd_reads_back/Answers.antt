use Rattle.mergedfiles.proofs.HostUsers.{host_passwd_back}
use Rattle.mergedfiles.proofs.laws.host_passwd_reads_back.Goals as goal

pub returns : goal.returns
returns c = host_passwd_back
