use Rattle.mergedfiles.proofs.HostKept.{host_names_kept}
use Rattle.mergedfiles.proofs.laws.host_names_are_kept.Goals as goal

pub returns : goal.returns
returns c = host_names_kept
