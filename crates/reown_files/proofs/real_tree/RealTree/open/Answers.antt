use Rattle.std.proofs.Common.{subst, List}
use Rattle.reown_plan.specs.declared.mark.PlanMark.{PlanMark}
use Rattle.reown_plan.specs.PlanData.{PlanRecord}
use Rattle.reown_runner.specs.Halfway.{MayGoOn}
use Rattle.reown_runner.specs.Memory.{known_mem}
use Rattle.reown_runner.specs.Tree.{cells_of}
use Rattle.reown_files.proofs.real_tree.RealTree.open.Goals as goal

pub returns-in-Ok-clause-safe : goal.returns-in-Ok-clause-safe
returns-in-Ok-clause-safe g c =
    let held = known_mem c.in-Ok.held in
    subst (λ (m : PlanMark). MayGoOn c.args.plan.now.records (cells_of m held)) c.mark-mark.ensures
    (subst (λ (rs : List PlanRecord). MayGoOn rs (cells_of c.mark-mark.result held)) c.records-records.ensures.records c.in-Ok.ensures.safe)
