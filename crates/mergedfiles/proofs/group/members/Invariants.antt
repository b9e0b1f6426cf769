use Rattle.std.proofs.Common.{◌≡◌, map, take}
use Rattle.mergedfiles.specs.Rows.{all_members}
use Rattle.mergedfiles.specs.Seen.{group_seen, texts_of}
use Rattle.mergedfiles.proofs.group.members.Given as goal

abbrev pub invariant-loop-group : goal.invariant-loop-group
invariant-loop-group l = texts_of l.users.items ≡ all_members (map group_seen (take l.group-index l.groups))
