use Rattle.std.proofs.Common.{◌∙◌, sym, ap, subst, IsSome}
use Rattle.reown_runner.specs.Tree.{ForEachPlan, Writes, MayDo, Write, cells_of}
use Rattle.reown_runner.specs.Memory.{Mem, known_mem}
use Rattle.reown_files.specs.Real.{RealData, IsNotGiven}
use Rattle.reown_files.proofs.Replays.{still_there, writes_after}
use Rattle.reown_files.proofs.real_tree.RealTreeTree.set_owner.Goals as goal

pub returns-then-gives-clause-done : goal.returns-then-gives-clause-done
returns-then-gives-clause-done g c =
    let tree = λ (r : RealData). r.tree in
    subst (λ (m : Mem). ForEachPlan (Writes c.args.path.now c.args.owner) (known_mem m) (known_mem c.gives.new.self.tree))
    (ap tree c.held_owner-held.ensures.untouched ∙ ap tree c.count.ensures) (c.gives.ensures.done c.if-gives.true)

pub returns-then-may_fail-clause-failed : goal.returns-then-may_fail-clause-failed
returns-then-may_fail-clause-failed g c =
    let tree = λ (r : RealData). r.tree in
    let may = MayDo (Write c.args.path.now c.args.owner) in
    subst (λ (m : Mem). ForEachPlan may (known_mem c.args.self.now.tree) (known_mem m)) (sym (ap tree c.fail.ensures))
    (subst (λ (m : Mem). ForEachPlan may (known_mem m) (known_mem c.gives.new.self.tree))
    (ap tree c.held_owner-held.ensures.untouched ∙ ap tree c.count.ensures) (c.gives.ensures.failed c.if-gives.false))

pub write-requires-clause-there : goal.write-requires-clause-there
write-requires-clause-there g c =
    let tree = λ (r : RealData). r.tree in
    let before = ap tree c.held_owner-held.ensures.untouched ∙ ap tree c.count.ensures in
    still_there c.held_owner-held.new.self.tree c.gives.new.self.tree c.args.path.now c.args.owner c.args.self.now.mark (c.gives.ensures.failed c.if-gives.false c.args.self.now.mark)
    (subst (λ (m : Mem). IsSome ((known_mem m).owner c.args.path.now)) (sym before) c.requires)

pub returns-clause-done : goal.returns-clause-done
returns-clause-done g c = λ plan.
    let tree = λ (r : RealData). r.tree in
    let before = ap tree c.held_owner-held.ensures.untouched ∙ ap tree c.count.ensures in
    subst (λ (m : Mem). Writes c.args.path.now c.args.owner (cells_of plan (known_mem m)) (cells_of plan (known_mem c.write.new.self.tree))) before
    (writes_after c.args.path.now c.args.owner (cells_of plan (known_mem c.held_owner-held.new.self.tree)) (cells_of plan (known_mem c.gives.new.self.tree)) (cells_of plan (known_mem c.write.new.self.tree)) (c.gives.ensures.failed c.if-gives.false plan) (c.write.ensures.done plan))

pub returns-then-may_fail-clause-why : goal.returns-then-may_fail-clause-why
returns-then-may_fail-clause-why g c =
    subst (IsNotGiven c.args.path.now c.args.owner c.args.self.now) (sym c.fail.ensures)
    (subst (λ (r : RealData). IsNotGiven c.args.path.now c.args.owner r c.gives.new.self) (c.held_owner-held.ensures.untouched ∙ c.count.ensures) (c.gives.ensures.why c.if-gives.false))
