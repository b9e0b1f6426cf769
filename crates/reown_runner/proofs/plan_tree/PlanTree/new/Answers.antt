use Rattle.std.proofs.Common.{None, length, replicate, sym, ap, ◌∙◌}
use Rattle.std.proofs.lemmas.List.{length-map}
use Rattle.reown_plan.specs.PlanData.{PlanRecord}
use Rattle.reown_plan.specs.Places.{paths_in}
use Rattle.reown_plan.specs.Records.{record_of}
use Rattle.reown_runner.proofs.PlanTrees.{none_yet}
use Rattle.reown_runner.proofs.plan_tree.PlanTree.new.Goals as goal

pub returns : goal.returns
returns c =
    let paths = paths_in c.args.plan.now.records in
    let many = sym (length-map c.records.result.now record_of) ∙ ap length c.records.ensures.records ∙ sym (length-map c.args.plan.now.records (λ (r : PlanRecord). r.path)) in
    let owners = c.in_ok-owners.ensures ∙ ap (λ n. replicate n None) many ∙ none_yet paths in
    λ j. record { paths = paths; owners = owners j; mark = None; asked = 0 }
