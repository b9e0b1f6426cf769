use Rattle.std.proofs.Common.{◌≡◌, ◌++◌, take, map}
use Rattle.mergedfiles.specs.Differences.{user_differs}
use Rattle.mergedfiles.specs.Seen.{user_seen}
use Rattle.mergedfiles.proofs.differing.push_user_field.Given as goal

abbrev pub invariant-loop-user : goal.invariant-loop-user
invariant-loop-user l = l.told.items ≡ l.fn.told.items ++ user_differs l.name l.field (user_seen l.first) (map user_seen (take l.user-index l.later))
