use Rattle.std.proofs.Common.{◌∙◌, sym, subst, arith, map}
use Rattle.std.proofs.lemmas.Grind.{common_steps}
use Rattle.std.proofs.lemmas.List.{length-map}
use Rattle.reown_plan.specs.PlanData.{PlanRecord}
use Rattle.reown_plan.specs.Records.{record_of}
use Rattle.reown_runner.specs.Memory.{Mem, known_mem}
use Rattle.reown_runner.specs.Tree.{cells_of}
use Rattle.reown_runner.specs.Safe.{IsSafeInStep}
use Rattle.reown_runner.specs.Halfway.{planned_in}
use Rattle.reown_runner.specs.declared.runner.Place.TheVariants.{Start}
use Rattle.reown_runner.proofs.Halves.{halves_safe, nothing}
use Rattle.reown_runner.proofs.Places.{distinct-map}
use Rattle.reown_runner.proofs.memory.MemTree.of_records.Goals as goal

pub new-requires : goal.new-requires
new-requires c = distinct-map (λ (r : PlanRecord). r.path) nothing (map record_of c.args.records.now) c.in_ok-paths_of.field-0 c.requires.distinct c.in_ok-paths_of.ensures

pub returns-clause-starts : goal.returns-clause-starts
returns-clause-starts c = grind (arith, common_steps)

pub returns-clause-safe : goal.returns-clause-safe
returns-clause-safe c = λ plan halfway.
    let records = map record_of c.args.records.now in
    subst (λ (m : Mem). IsSafeInStep (planned_in records) records Start (cells_of plan (known_mem m))) (sym (returns-clause-starts c)) (halves_safe records c.args.owners.now c.args.mark plan c.requires.distinct (c.requires.as_many ∙ sym (length-map c.args.records.now record_of)) halfway)
