use Rattle.std.proofs.Common.{refl}
use Rattle.unify.specs.Reading.{added_from}
use Rattle.unify.specs.Turns.{pass_of, seen}
use Rattle.unify.proofs.BetweenPasses.{AreCountersOf}
use Rattle.unify.proofs.site.JoinedSite.check.Goals as goal

pub check_counted-requires-clause-stands : goal.check_counted-requires-clause-stands
check_counted-requires-clause-stands c =
    let p = pass_of c.self.inside.0.0 in
    let are : AreCountersOf (seen p) c.self.inside.0.1.0 c.in_ok-counts.counts = rw (← c.self.view_is) at c.in_ok-counts.ensures.counted in
    let inv = c.self.invariant.counting in
    (added_from 0 inv.read, are inv.read inv.accepted)

pub returns : goal.returns
returns c =
    let p = pass_of c.self.inside.0.0 in
    let site = c.self.inside.0.1.0 in
    let are : AreCountersOf (seen p) site c.in_ok-counts.counts = rw (← c.self.view_is) at c.in_ok-counts.ensures.counted in
    rw (← c.self.view_is) (λ read is. c.check_counted.ensures (record { hosts = read; joined = site }) refl (are read is))
