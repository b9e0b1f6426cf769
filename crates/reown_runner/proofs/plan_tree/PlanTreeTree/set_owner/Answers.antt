use Rattle.std.proofs.Common.{◌<◌, IfSome, Some, length, set, sym, ap, subst, ◌∙◌}
use Rattle.reown_runner.specs.PlanTree.{FilesOfPlan, known_files}
use Rattle.reown_runner.specs.Tree.{Writes, ForEachPlan, counted}
use Rattle.reown_runner.proofs.PlanTrees.{files_written}
use Rattle.reown_runner.proofs.plan_tree.PlanTreeTree.set_owner.Goals as goal

pub returns-clause-done : goal.returns-clause-done
returns-clause-done c =
    let m = c.args.self.now in
    let place = c.unwrap-place.result in
    let at = sym c.place_of.ensures.place ∙ c.unwrap-place.ensures in
    let below = subst (λ o. IfSome o (λ i. i < length m.owners)) c.unwrap-place.ensures c.place_of.ensures.within in
    let new = c.write.ensures ∙ ap (λ (t : FilesOfPlan). record t { owners = set t.owners place (Some c.args.owner); asked = counted t.asked }) c.place_of.ensures.same in
    subst (λ n. ForEachPlan (Writes c.args.path.now c.args.owner) (known_files m) (known_files n)) (sym new) (files_written m c.args.path.now c.args.owner place at below)
