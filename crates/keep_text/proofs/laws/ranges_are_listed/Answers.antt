use Rattle.keep_text.proofs.KeepListed.{ranges_are_listed}
use Rattle.keep_text.proofs.laws.ranges_are_listed.Goals as goal

pub returns : goal.returns
returns c = ranges_are_listed
