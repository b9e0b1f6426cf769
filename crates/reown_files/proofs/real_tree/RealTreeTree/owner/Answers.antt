use Rattle.std.proofs.Common.{Option, sym, subst}
use Rattle.reown_plan.specs.declared.plan.Owner.{Owner}
use Rattle.reown_files.specs.Failed.{SeesOtherwise}
use Rattle.reown_files.specs.Real.{RealData, FailsBy, known_real}
use Rattle.reown_files.proofs.real_tree.RealTreeTree.owner.Goals as goal

pub returns-then-may_fail-clause-why : goal.returns-then-may_fail-clause-why
returns-then-may_fail-clause-why g c =
    let seen = SeesOtherwise c.args.path.now ((known_real c.args.self.now).owner c.args.path.now) in
    subst (FailsBy seen c.args.self.now) (sym c.fail.ensures)
    (subst (λ (r : RealData). FailsBy seen r c.sees.new.self) c.held_owner-held.ensures.untouched
    (subst (λ (held : Option Owner). FailsBy (SeesOtherwise c.args.path.now held) c.held_owner-held.new.self c.sees.new.self) c.held_owner-held.ensures.answer (c.sees.ensures.failed c.if-sees.false)))
