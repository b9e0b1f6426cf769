use Rattle.std.proofs.Common.{◌≡◌, ◌++◌, take, map}
use Rattle.kept_accounts.specs.Reserving.{by_range}
use Rattle.kept_accounts.proofs.reserving.push_ranges.Given as goal

abbrev pub invariant-loop-range : goal.invariant-loop-range
invariant-loop-range l = l.reserved.items ≡ l.initial.reserved.items ++ map by_range (take l.range-index l.ranges)
