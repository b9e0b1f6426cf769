use Rattle.mergedfiles.proofs.HostKnown.{all_is_in_part}
use Rattle.mergedfiles.proofs.laws.all_is_in_part.Goals as goal

pub returns : goal.returns
returns c = all_is_in_part
