use Rattle.std.proofs.Common.{◌≡◌, ◌++◌, take, map}
use Rattle.kept_accounts.specs.Reserving.{by_files}
use Rattle.kept_accounts.proofs.reserving.push_unowned.Given as goal

abbrev pub invariant-loop-found : goal.invariant-loop-found
invariant-loop-found l = l.reserved.items ≡ l.initial.reserved.items ++ map by_files (take l.found-index l.unowned)
