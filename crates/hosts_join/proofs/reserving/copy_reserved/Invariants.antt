use Rattle.std.proofs.Common.{◌≡◌, take}
use Rattle.hosts_join.proofs.reserving.copy_reserved.Given as goal

abbrev pub invariant-loop-one : goal.invariant-loop-one
invariant-loop-one l = l.copy.items ≡ take l.one-index l.reserved
