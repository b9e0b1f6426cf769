use Rattle.std.specs.Prelude.{IfOk}
use Rattle.unify.specs.Merging.{HoldsCounted, IsMerged}
use Rattle.site_tables.specs.Begun.{AreTogether}
use Rattle.unify.specs.Reading.{WholeSite}
use Rattle.unify.specs.Turns.{pass_of, seen}
use Rattle.unify.proofs.BetweenPasses.{AreCountersOf, merged_of, whole_of}
use Rattle.unify.proofs.Ended.{IsOver}
use Rattle.unify.proofs.joined_site.solve_site.Goals as goal

pub solve_counted-requires : goal.solve_counted-requires
solve_counted-requires c =
    let p = pass_of c.begun.inside.0.0 in
    let site = c.begun.inside.0.1.0 in
    let counts = c.in_ok-counts.counts in
    let over : IsOver (seen p) = rw (← c.begun.view_is) at c.requires.none_left in
    let together : AreTogether p.hosts site = rw (← c.begun.view_is) at c.requires.together in
    let are : AreCountersOf (seen p) site counts = rw (← c.begun.view_is) at c.in_ok-counts.ensures.counted in
    rw c.deref.ensures.value (whole_of p site counts c.begun.invariant.counting together over c.in_ok-counts.ensures.made are)

pub returns-clause-merged : goal.returns-clause-merged
returns-clause-merged c =
    let p = pass_of c.begun.inside.0.0 in
    let site = c.begun.inside.0.1.0 in
    let counts = c.in_ok-counts.counts in
    let over : IsOver (seen p) = rw (← c.begun.view_is) at c.requires.none_left in
    let together : AreTogether p.hosts site = rw (← c.begun.view_is) at c.requires.together in
    let are : AreCountersOf (seen p) site counts = rw (← c.begun.view_is) at c.in_ok-counts.ensures.counted in
    let merged : IfOk c.solve_counted.result (λ solved. (whole : WholeSite) → HoldsCounted whole p.hosts site counts → IsMerged whole solved.0) = rw c.deref.ensures.value at c.solve_counted.ensures.merged in
    rw (← c.begun.view_is) (merged_of (seen p) site counts c.solve_counted.result together over c.in_ok-counts.ensures.made are merged)
