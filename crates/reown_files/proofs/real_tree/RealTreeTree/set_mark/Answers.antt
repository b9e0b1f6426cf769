use Rattle.std.proofs.Common.{ap, sym, subst, ◌∙◌}
use Rattle.reown_runner.specs.Memory.{marked}
use Rattle.reown_runner.proofs.Memories.{sets_mark, marks_no_other, marks_none}
use Rattle.reown_files.specs.Real.{RealData, IsNotPut}
use Rattle.reown_files.proofs.real_tree.RealTreeTree.set_mark.Goals as goal

pub returns-then-puts_mark-clause-done : goal.returns-then-puts_mark-clause-done
returns-then-puts_mark-clause-done g c =
    sets_mark c.args.plan.now c.args.self.now.tree c.puts_mark.new.self.tree (c.puts_mark.ensures.marked c.if-puts_mark.true ∙ ap (λ (r : RealData). marked c.args.plan.now r.tree) c.count.ensures)

pub returns-then-puts_mark-clause-no_other : goal.returns-then-puts_mark-clause-no_other
returns-then-puts_mark-clause-no_other g c =
    marks_no_other c.args.plan.now c.args.self.now.tree c.puts_mark.new.self.tree (c.puts_mark.ensures.marked c.if-puts_mark.true ∙ ap (λ (r : RealData). marked c.args.plan.now r.tree) c.count.ensures)

pub returns-then-may_fail-clause-no_other : goal.returns-then-may_fail-clause-no_other
returns-then-may_fail-clause-no_other g c =
    let before = c.puts_mark.ensures.failed c.if-puts_mark.false ∙ ap (λ (r : RealData). r.tree) c.count.ensures in
    marks_none c.args.plan.now c.args.self.now.tree c.fail.new.self.tree (ap (λ (r : RealData). r.tree) c.fail.ensures ∙ before)

pub returns-clause-no_other : goal.returns-clause-no_other
returns-clause-no_other g c =
    let before = c.puts_mark.ensures.failed c.if-puts_mark.false ∙ ap (λ (r : RealData). r.tree) c.count.ensures in
    marks_no_other c.args.plan.now c.args.self.now.tree c.write_mark.new.self.tree (ap (λ (r : RealData). r.tree) c.write_mark.ensures.rest ∙ ap (marked c.args.plan.now) before)

pub returns-then-may_fail-clause-why : goal.returns-then-may_fail-clause-why
returns-then-may_fail-clause-why g c =
    subst (IsNotPut c.args.plan.now c.args.self.now) (sym c.fail.ensures)
    (subst (λ (r : RealData). IsNotPut c.args.plan.now r c.puts_mark.new.self) c.count.ensures (c.puts_mark.ensures.why c.if-puts_mark.false))
