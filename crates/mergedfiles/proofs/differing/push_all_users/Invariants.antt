use Rattle.std.proofs.Common.{◌≡◌, ◌++◌, take, map}
use Rattle.std.specs.List.{flat_map}
use Rattle.hosts_join.specs.Order.{name_at}
use Rattle.mergedfiles.specs.Rows.{users_named}
use Rattle.mergedfiles.specs.Differences.{user_differences}
use Rattle.mergedfiles.proofs.differing.push_all_users.Given as goal

abbrev pub invariant-loop-index : goal.invariant-loop-index
invariant-loop-index l = l.told.items ≡ l.fn.told.items ++ flat_map (λ name. user_differences name (users_named name l.hosts)) (map (name_at l.site.users.names) (take l.index-index l.index-items))
