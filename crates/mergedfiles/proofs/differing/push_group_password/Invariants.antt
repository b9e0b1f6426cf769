use Rattle.std.proofs.Common.{◌≡◌, ◌++◌, take, map}
use Rattle.mergedfiles.specs.Differences.{group_differs}
use Rattle.mergedfiles.specs.Seen.{group_seen}
use Rattle.mergedfiles.proofs.differing.push_group_password.Given as goal

abbrev pub invariant-loop-group : goal.invariant-loop-group
invariant-loop-group l = l.told.items ≡ l.fn.told.items ++ group_differs l.name (group_seen l.first) (map group_seen (take l.group-index l.later))
