use Rattle.std.proofs.Common.{◌≡◌, None, take}
use Rattle.hosts_join.specs.Rules.{first_some, pin_reserved}
use Rattle.hosts_join.specs.Views.{pairs_of}
use Rattle.hosts_join.proofs.reserving.check_reserved.Given as goal

abbrev pub invariant-loop-claim : goal.invariant-loop-claim
invariant-loop-claim l = first_some (pin_reserved l.fn.kind l.reserved) (pairs_of (take l.claim-index l.claims)) ≡ None
