use Rattle.std.proofs.Common.{◌≡◌, sym, ◌∙◌, ap, subst, inr, refl, Ok, Err, Result}
use Rattle.reown_runner.specs.declared.failing.Item.{Item}
use Rattle.reown_runner.specs.declared.tree.DeviceFault.{DeviceFault}
use Rattle.reown_runner.specs.Tree.{ForEachPlan, Syncs}
use Rattle.reown_runner.specs.Memory.{Mem, known_mem, settled}
use Rattle.reown_runner.specs.Failing.{Failing, known_failing, next_item, IsScripted}
use Rattle.reown_runner.proofs.failing.FailTreeTree.sync.Goals as goal

pub returns-in-Pass-clause-done : goal.returns-in-Pass-clause-done
returns-in-Pass-clause-done c = subst (λ (m : Mem). ForEachPlan Syncs (known_mem m) (known_mem c.settle.new.self.tree)) (ap (λ (f : Failing). f.tree) c.take.ensures.script ∙ ap (λ (f : Failing). f.tree) c.count.ensures) c.settle.ensures.done

pub returns-in-Pass-clause-scripted : goal.returns-in-Pass-clause-scripted
returns-in-Pass-clause-scripted c =
    let result : Result (Unit {0}) DeviceFault = Ok tt in
    let item = sym (c.take.ensures.item ∙ ap next_item c.count.ensures) ∙ c.in-Pass.is in
    let exact = subst (λ (m : Mem). c.settle.new.self.tree ≡ settled m) (ap (λ (f : Failing). f.tree) c.take.ensures.script ∙ ap (λ (f : Failing). f.tree) c.count.ensures) (ap (λ (f : Failing). f.tree) c.settle.ensures.settled) in
    subst (λ (i : Item). IsScripted i result (c.settle.new.self.tree ≡ c.args.self.now.tree) (c.settle.new.self.tree ≡ settled c.args.self.now.tree)) (sym item) (refl, exact)

done_after : (c : goal.After-fail-in-FailAfter) → ForEachPlan Syncs (known_failing c.args.self.now) (known_failing c.fail-in-FailAfter.new.self)
done_after c = subst (λ (m : Mem). ForEachPlan Syncs (known_mem c.args.self.now.tree) (known_mem m)) (sym (ap (λ (f : Failing). f.tree) c.fail-in-FailAfter.ensures)) (subst (λ (m : Mem). ForEachPlan Syncs (known_mem m) (known_mem c.settle-in-FailAfter.new.self.tree)) (ap (λ (f : Failing). f.tree) c.take.ensures.script ∙ ap (λ (f : Failing). f.tree) c.count.ensures) c.settle-in-FailAfter.ensures.done)

pub returns-in-FailAfter-clause-failed : goal.returns-in-FailAfter-clause-failed
returns-in-FailAfter-clause-failed c = λ plan. inr (done_after c plan)

pub returns-in-FailAfter-clause-scripted : goal.returns-in-FailAfter-clause-scripted
returns-in-FailAfter-clause-scripted c =
    let result : Result (Unit {0}) DeviceFault = Err c.fail-in-FailAfter.result in
    let item = sym (c.take.ensures.item ∙ ap next_item c.count.ensures) ∙ c.in-FailAfter.is in
    let exact = subst (λ (m : Mem). m ≡ settled c.args.self.now.tree) (sym (ap (λ (f : Failing). f.tree) c.fail-in-FailAfter.ensures)) (subst (λ (m : Mem). c.settle-in-FailAfter.new.self.tree ≡ settled m) (ap (λ (f : Failing). f.tree) c.take.ensures.script ∙ ap (λ (f : Failing). f.tree) c.count.ensures) (ap (λ (f : Failing). f.tree) c.settle-in-FailAfter.ensures.settled)) in
    subst (λ (i : Item). IsScripted i result (c.fail-in-FailAfter.new.self.tree ≡ c.args.self.now.tree) (c.fail-in-FailAfter.new.self.tree ≡ settled c.args.self.now.tree)) (sym item) (refl, exact)
