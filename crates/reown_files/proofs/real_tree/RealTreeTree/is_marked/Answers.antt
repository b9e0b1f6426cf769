use Rattle.std.proofs.Common.{Bool, sym, subst}
use Rattle.reown_plan.specs.Mark.{is_marked_for}
use Rattle.reown_files.specs.Failed.{SeesMarkOtherwise}
use Rattle.reown_files.specs.Real.{RealData, FailsBy, known_real}
use Rattle.reown_files.proofs.real_tree.RealTreeTree.is_marked.Goals as goal

pub returns-then-may_fail-clause-why : goal.returns-then-may_fail-clause-why
returns-then-may_fail-clause-why g c =
    let seen = SeesMarkOtherwise c.args.plan.now (is_marked_for c.args.plan.now (known_real c.args.self.now).mark) in
    subst (FailsBy seen c.args.self.now) (sym c.fail.ensures)
    (subst (λ (r : RealData). FailsBy seen r c.sees_mark.new.self) c.held_mark-held.ensures.untouched
    (subst (λ (held : Bool). FailsBy (SeesMarkOtherwise c.args.plan.now held) c.held_mark-held.new.self c.sees_mark.new.self) c.held_mark-held.ensures.answer (c.sees_mark.ensures.failed c.if-sees_mark.false)))
