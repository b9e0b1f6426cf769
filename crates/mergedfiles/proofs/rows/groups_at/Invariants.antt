use Rattle.std.proofs.Common.{◌≡◌, take, map}
use Rattle.mergedfiles.specs.Seen.{group_seen}
use Rattle.mergedfiles.specs.Spots as spots
use Rattle.mergedfiles.proofs.rows.groups_at.Given as goal

abbrev pub invariant-loop-spot : goal.invariant-loop-spot
invariant-loop-spot l = map group_seen l.groups.items ≡ spots.groups_at l.hosts l.name (take l.spot-index l.among)
