use Rattle.std.proofs.Common.{◌≡◌, ◌++◌, take, map}
use Rattle.std.specs.List.{flat_map}
use Rattle.hosts_join.specs.Order.{name_at}
use Rattle.mergedfiles.specs.Rows.{groups_named}
use Rattle.mergedfiles.specs.Differences.{group_differences}
use Rattle.mergedfiles.proofs.differing.push_all_groups.Given as goal

abbrev pub invariant-loop-index : goal.invariant-loop-index
invariant-loop-index l = l.told.items ≡ l.fn.told.items ++ flat_map (λ name. group_differences name (groups_named name l.hosts)) (map (name_at l.site.groups.names) (take l.index-index l.index-items))
