use Rattle.std.proofs.Common.{subst, sym, ◌∙◌}
use Rattle.site_tables.specs.Begun.{AreTogether}
use Rattle.unify.specs.PlanTurns as again
use Rattle.unify.specs.PlanTurns.{IsSolving}
use Rattle.unify.specs.SecondPass.{IsSolvedFrom}
use Rattle.unify.specs.Taken.{Taken}
use Rattle.unify.specs.Turns.{pass_of, seen}
use Rattle.unify.proofs.BetweenPasses.{AreFirstRows, IsMergedOf, solved_from, solved_pass, solving_from}
use Rattle.unify.proofs.Ended.{IsOver}
use Rattle.unify.proofs.site.JoinedSite.solve.Goals as goal

pub invariant_of-result : goal.invariant_of-result
invariant_of-result c =
    let p = pass_of c.self.inside.0.0 in
    let site = c.self.inside.0.1.0 in
    let are : IsMergedOf (seen p) site c.in-Ok.merged = rw (← c.self.view_is) at c.in-Ok.ensures.merged in
    let turn = c.read_again_by.new.turn in
    let first : AreFirstRows p.hosts c.in-Ok.turn = rw (← c.self.view_is) at c.in-Ok.ensures.rows in
    let rows : AreFirstRows p.hosts turn = λ host here. c.read_again_by.ensures.rows ∙ first host here in
    let over : IsOver (seen p) = rw (← c.self.view_is) at c.requires.none_left in
    let together : AreTogether p.hosts site = rw (← c.self.view_is) at c.requires.together in
    subst (λ (t : Taken). IsSolving (record (solved_pass p site c.in-Ok.merged turn) { taken = t })) (sym c.new.ensures) (solving_from p site c.in-Ok.merged turn c.self.invariant.counting together over are (c.read_again_by.ensures.fresh c.in-Ok.ensures.fresh, rows))

pub returns : goal.returns
returns c =
    let p = pass_of c.self.inside.0.0 in
    let site = c.self.inside.0.1.0 in
    let are : IsMergedOf (seen p) site c.in-Ok.merged = rw (← c.self.view_is) at c.in-Ok.ensures.merged in
    let turn = c.read_again_by.new.turn in
    rw (← c.self.view_is) (subst (λ (t : Taken). IsSolvedFrom (seen p) site (again.seen (record (solved_pass p site c.in-Ok.merged turn) { taken = t }))) (sym c.new.ensures) (solved_from p site c.in-Ok.merged turn are (c.read_again_by.ensures.fresh c.in-Ok.ensures.fresh)))
