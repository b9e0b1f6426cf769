use Rattle.std.proofs.Common.{◌≡◌, sym, ◌∙◌, ap, subst, inr, refl, Ok, Err, Result}
use Rattle.reown_runner.specs.declared.failing.Item.{Item}
use Rattle.reown_runner.specs.declared.tree.DeviceFault.{DeviceFault}
use Rattle.reown_runner.specs.Tree.{cells_of, SetsMark}
use Rattle.reown_runner.specs.Memory.{Mem, known_mem, marked}
use Rattle.reown_runner.specs.Failing.{Failing, known_failing, next_item, IsScripted}
use Rattle.reown_runner.proofs.Memories.{marks_no_other, marks_none}
use Rattle.reown_runner.proofs.failing.FailTreeTree.set_mark.Goals as goal

pub returns-in-Pass-clause-done : goal.returns-in-Pass-clause-done
returns-in-Pass-clause-done c = subst (λ (m : Mem). SetsMark (cells_of c.args.plan.now (known_mem m)) (cells_of c.args.plan.now (known_mem c.write_mark.new.self.tree))) (ap (λ (f : Failing). f.tree) c.take.ensures.script ∙ ap (λ (f : Failing). f.tree) c.count.ensures) c.write_mark.ensures.done

pub returns-in-Pass-clause-scripted : goal.returns-in-Pass-clause-scripted
returns-in-Pass-clause-scripted c =
    let result : Result (Unit {0}) DeviceFault = Ok tt in
    let item = sym (c.take.ensures.item ∙ ap next_item c.count.ensures) ∙ c.in-Pass.is in
    let exact = subst (λ (m : Mem). c.write_mark.new.self.tree ≡ marked c.args.plan.now m) (ap (λ (f : Failing). f.tree) c.take.ensures.script ∙ ap (λ (f : Failing). f.tree) c.count.ensures) (ap (λ (f : Failing). f.tree) c.write_mark.ensures.marked) in
    subst (λ (i : Item). IsScripted i result (c.write_mark.new.self.tree ≡ c.args.self.now.tree) (c.write_mark.new.self.tree ≡ marked c.args.plan.now c.args.self.now.tree)) (sym item) (refl, exact)

done_after : (c : goal.After-fail-in-FailAfter) → SetsMark (cells_of c.args.plan.now (known_failing c.args.self.now)) (cells_of c.args.plan.now (known_failing c.fail-in-FailAfter.new.self))
done_after c = subst (λ (m : Mem). SetsMark (cells_of c.args.plan.now (known_mem c.args.self.now.tree)) (cells_of c.args.plan.now (known_mem m))) (sym (ap (λ (f : Failing). f.tree) c.fail-in-FailAfter.ensures)) (subst (λ (m : Mem). SetsMark (cells_of c.args.plan.now (known_mem m)) (cells_of c.args.plan.now (known_mem c.write_mark-in-FailAfter.new.self.tree))) (ap (λ (f : Failing). f.tree) c.take.ensures.script ∙ ap (λ (f : Failing). f.tree) c.count.ensures) c.write_mark-in-FailAfter.ensures.done)

pub returns-in-FailAfter-clause-failed : goal.returns-in-FailAfter-clause-failed
returns-in-FailAfter-clause-failed c = inr (done_after c)

pub returns-in-FailAfter-clause-scripted : goal.returns-in-FailAfter-clause-scripted
returns-in-FailAfter-clause-scripted c =
    let result : Result (Unit {0}) DeviceFault = Err c.fail-in-FailAfter.result in
    let item = sym (c.take.ensures.item ∙ ap next_item c.count.ensures) ∙ c.in-FailAfter.is in
    let exact = subst (λ (m : Mem). m ≡ marked c.args.plan.now c.args.self.now.tree) (sym (ap (λ (f : Failing). f.tree) c.fail-in-FailAfter.ensures)) (subst (λ (m : Mem). c.write_mark-in-FailAfter.new.self.tree ≡ marked c.args.plan.now m) (ap (λ (f : Failing). f.tree) c.take.ensures.script ∙ ap (λ (f : Failing). f.tree) c.count.ensures) (ap (λ (f : Failing). f.tree) c.write_mark-in-FailAfter.ensures.marked)) in
    subst (λ (i : Item). IsScripted i result (c.fail-in-FailAfter.new.self.tree ≡ c.args.self.now.tree) (c.fail-in-FailAfter.new.self.tree ≡ marked c.args.plan.now c.args.self.now.tree)) (sym item) (refl, exact)

pub returns-in-Pass-clause-no_other : goal.returns-in-Pass-clause-no_other
returns-in-Pass-clause-no_other c =
    let before = ap (λ (f : Failing). f.tree) c.take.ensures.script ∙ ap (λ (f : Failing). f.tree) c.count.ensures in
    marks_no_other c.args.plan.now c.args.self.now.tree c.write_mark.new.self.tree (ap (λ (f : Failing). f.tree) c.write_mark.ensures.marked ∙ ap (marked c.args.plan.now) before)

pub returns-in-FailBefore-clause-no_other : goal.returns-in-FailBefore-clause-no_other
returns-in-FailBefore-clause-no_other c =
    let before = ap (λ (f : Failing). f.tree) c.take.ensures.script ∙ ap (λ (f : Failing). f.tree) c.count.ensures in
    marks_none c.args.plan.now c.args.self.now.tree c.fail.new.self.tree (ap (λ (f : Failing). f.tree) c.fail.ensures ∙ before)

pub returns-in-FailAfter-clause-no_other : goal.returns-in-FailAfter-clause-no_other
returns-in-FailAfter-clause-no_other c =
    let before = ap (λ (f : Failing). f.tree) c.take.ensures.script ∙ ap (λ (f : Failing). f.tree) c.count.ensures in
    let written = ap (λ (f : Failing). f.tree) c.write_mark-in-FailAfter.ensures.marked ∙ ap (marked c.args.plan.now) before in
    marks_no_other c.args.plan.now c.args.self.now.tree c.fail-in-FailAfter.new.self.tree (ap (λ (f : Failing). f.tree) c.fail-in-FailAfter.ensures ∙ written)
