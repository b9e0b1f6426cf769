use Rattle.mergedfiles.proofs.HostKept.{full_names_kept}
use Rattle.mergedfiles.proofs.laws.full_names_are_kept.Goals as goal

pub returns : goal.returns
returns c = full_names_kept
