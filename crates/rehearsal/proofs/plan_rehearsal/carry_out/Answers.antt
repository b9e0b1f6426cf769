use Rattle.std.proofs.Common.{◌≡◌, List, [], length, None, Some, Ok, sym, ◌∙◌, ap, subst, arith, is_some}
use Rattle.std.proofs.lemmas.List.{length-map}
use Rattle.idtext.specs.First.{first_fault, unless}
use Rattle.mtree_inv.specs.declared.entry.Entry.{Entry}
use Rattle.reown_plan.specs.Places.{paths_in}
use Rattle.reown_plan.specs.Records.{record_of}
use Rattle.reown_runner.specs.Finished.{IsFresh}
use Rattle.reown_runner.specs.Memory.{owner_in}
use Rattle.reown_runner.specs.PlanTree.{FilesOfPlan, found_among, known_files}
use Rattle.reown_runner.specs.Run.{refusal}
use Rattle.reown_runner.specs.RunnerData.{RunnerData}
use Rattle.reown_runner.specs.State.{fresh}
use Rattle.reown_runner.specs.Tree.{cells_of}
use Rattle.reown_runner.proofs.PlanTrees.{found_fresh}
use Rattle.rehearsal.specs.Rehearsing.{record_fault}
use Rattle.rehearsal.specs.RunFaults.{run_told}
use Rattle.unify_texts.proofs.Faults.{told_is}
use Rattle.rehearsal.proofs.Fewer.{records_few}
use Rattle.rehearsal.proofs.PlanRehearsals.{planned, planned_few, same_fault}
use Rattle.rehearsal.proofs.Stopping.{Ends, image_of, fresh_stands, run_ends}
use Rattle.rehearsal.proofs.plan_rehearsal.carry_out.Goals as goal
use Rattle.rehearsal.proofs.plan_rehearsal.carry_out.Goals.{After-run}

-- how the run ends, on the files of the plan's records alone
ends : (c : After-run) (all : List Entry) → c.args.tree.now ≡ found_among all (paths_in c.args.plan.now.records) → Ends c.args.plan.now.records (first_fault (record_fault (planned all c.args.plan.now.records)) [] c.args.plan.now.records) (refusal c.run.result)
ends c all is =
    let records = c.args.plan.now.records in
    let files = planned all records in
    let mark = c.new-runner.result.mark in
    let is_fresh = subst (λ (t : FilesOfPlan). IsFresh (owner_in files) (cells_of mark (known_files t))) (sym is) (found_fresh (paths_in records) all mark) in
    let history = c.run.ensures.stands (fresh (image_of files records)) (fresh_stands files records (cells_of mark (known_files c.args.tree.now)) is_fresh) in
    run_ends files records _ _ c.new-runner.result history.0 c.run.result c.run.new.self.place history.1 c.records-records.ensures.distinct (ap (λ (w : RunnerData). w.records) c.new-runner.ensures) (ap (λ (w : RunnerData). w.place) c.new-runner.ensures) c.run.ensures.faults c.run.ensures.done history.3

long : (c : After-run) → length c.records-records.result.now ≡ length c.args.plan.now.records
long c = sym (length-map c.records-records.result.now record_of) ∙ ap length c.records-records.ensures.records

pub overflow_cast-result : goal.overflow_cast-result
overflow_cast-result c =
    let records = c.args.plan.now.records in
    let all = c.requires.0 in
    let after = (goal.at.overflow_cast-result c).After-run in
    let first = first_fault (record_fault (planned all records)) [] records in
    let none : first ≡ None = subst (λ r. Ends records first (refusal r)) c.in-Ok.is (ends after all c.requires.2) in
    omega (arith, long after, records_few (planned all records) records c.records-records.ensures.distinct none, planned_few all records, c.requires.1)

pub returns-in-Ok : goal.returns-in-Ok
returns-in-Ok c = λ all is.
    let records = c.args.plan.now.records in
    let after = (goal.at.returns-in-Ok c).After-run in
    let first = first_fault (record_fault (planned all records)) [] records in
    let none : first ≡ None = subst (λ r. Ends records first (refusal r)) c.in-Ok.is (ends after all is) in
    ap (λ o. unless o (length records)) (sym (same_fault all records) ∙ none) ∙ ap (λ n. Ok n) (sym (long after))

pub run_fault-requires : goal.run_fault-requires
run_fault-requires c =
    let records = c.args.plan.now.records in
    let first = first_fault (record_fault (planned c.requires.0 records)) [] records in
    let here : Ends records first (Some c.in-Err.fault) = subst (λ r. Ends records first (refusal r)) c.in-Err.is (ends (goal.at.run_fault-requires c).After-run c.requires.0 c.requires.2) in
    ap is_some (ap (λ rs. run_told rs c.in-Err.fault) c.records-records.ensures.records ∙ here.1)

pub returns-in_ok-run_fault-in-Err : goal.returns-in_ok-run_fault-in-Err
returns-in_ok-run_fault-in-Err c = λ all is.
    let records = c.args.plan.now.records in
    let first = first_fault (record_fault (planned all records)) [] records in
    let here : Ends records first (Some c.in-Err.fault) = subst (λ r. Ends records first (refusal r)) c.in-Err.is (ends (goal.at.returns-in_ok-run_fault-in-Err c).After-run all is) in
    told_is c.in_ok-run_fault-in-Err.field-0 _
    (ap (λ o. unless o (length records)) (sym (same_fault all records) ∙ here.2 ∙ sym here.1 ∙ ap (λ rs. run_told rs c.in-Err.fault) (sym c.records-records.ensures.records) ∙ c.in_ok-run_fault-in-Err.ensures))
