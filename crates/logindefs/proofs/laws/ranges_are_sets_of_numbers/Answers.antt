use Rattle.logindefs.proofs.SetLemmas.{len-counts, shared-both}
use Rattle.logindefs.proofs.laws.ranges_are_sets_of_numbers.Goals as goal

pub returns : goal.returns
returns c = record { len = len-counts; shared = shared-both }
