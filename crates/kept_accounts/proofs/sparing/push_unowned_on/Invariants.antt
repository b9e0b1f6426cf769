use Rattle.std.proofs.Common.{◌≡◌, ◌++◌, take}
use Rattle.kept_accounts.specs.Others.{unowned_on}
use Rattle.kept_accounts.proofs.sparing.push_unowned_on.Given as goal

abbrev pub invariant-loop-found : goal.invariant-loop-found
invariant-loop-found l =
    l.ranges.items ≡ l.initial.ranges.items ++ unowned_on l.host (take l.found-index l.unowned)
