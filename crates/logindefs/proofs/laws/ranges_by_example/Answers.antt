use Rattle.logindefs.proofs.Examples.{defaults-hold, all_eight-read, last-count, system-below}
use Rattle.logindefs.proofs.laws.ranges_by_example.Goals as goal

pub returns : goal.returns
returns c = record { defaults = defaults-hold; all_eight = all_eight-read; last = last-count; below = system-below }
