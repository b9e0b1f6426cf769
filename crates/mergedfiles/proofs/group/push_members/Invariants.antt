use Rattle.std.proofs.Common.{◌≡◌, ◌++◌, map, ℕ, List}
use Rattle.std.specs.Borrow.{Bor}
use Rattle.accounts.specs.Rows.{members_of}
use Rattle.mergedfiles.specs.Seen.{group_seen}
use Rattle.mergedfiles.proofs.group.push_members.Given as goal

abbrev pub invariant-loop-user : goal.invariant-loop-user
invariant-loop-user l = map (λ (user : Bor (List ℕ)). user.now) l.users.items ++ l.members ≡ map (λ (user : Bor (List ℕ)). user.now) l.fn.users.items ++ members_of (group_seen l.group).row.members
