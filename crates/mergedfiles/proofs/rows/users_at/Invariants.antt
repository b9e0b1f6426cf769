use Rattle.std.proofs.Common.{◌≡◌, take, map}
use Rattle.mergedfiles.specs.Seen.{user_seen}
use Rattle.mergedfiles.specs.Spots as spots
use Rattle.mergedfiles.proofs.rows.users_at.Given as goal

abbrev pub invariant-loop-spot : goal.invariant-loop-spot
invariant-loop-spot l = map user_seen l.users.items ≡ spots.users_at l.hosts l.name (take l.spot-index l.among)
