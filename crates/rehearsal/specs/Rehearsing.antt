-- What a rehearsal of a plan answers: the plan is carried out on a tree in memory that is as the
-- inventory tells.
-- Source: this project's own rule.
use Rattle.std.specs.Prelude.{◌≡◌, ℕ, ◌||◌, List, [], length, Option, Some, None, Result, Ok, Err}
use Rattle.std.specs.Prelude.{IfSome, if◌then◌else◌}
use Rattle.idtext.specs.First.{◌>>=◌, first_fault, unless}
use Rattle.mtree_inv.specs.declared.entry.Entry.{Entry}
use Rattle.mtree_inv.specs.Inventory.{inventory}
use Rattle.reown_plan.specs.declared.plan.Owner.{Owner}
use Rattle.reown_plan.specs.Owners.{owner_eq}
use Rattle.reown_plan.specs.PlanData.{PlanData, PlanRecord}
use Rattle.reown_plan.specs.Reading.{ReadsAs}
use Rattle.reown_runner.specs.Memory.{owner_in}
use Rattle.unify_texts.specs.declared.bundle_line.FileName.TheVariants as file
use Rattle.unify_texts.specs.declared.fault.Fault.{Fault}
use Rattle.unify_texts.specs.declared.fault.Fault.TheVariants.{Missing, Foreign}
use Rattle.unify_texts.specs.Limits.{most_files}
use Rattle.unify_texts.specs.Told.{in_file, in_plan}

-- the file of a record is there, at its old or its new owner
abbrev pub found_fault : PlanRecord → Option Owner → Option Fault
found_fault r None = Some (Missing r.path)
found_fault r (Some has) =
    if owner_eq has r.before || owner_eq has r.after then None else Some (Foreign r.path)

abbrev pub record_fault : List Entry → List PlanRecord → PlanRecord → Option Fault
record_fault files before r = found_fault r (owner_in files r.path)

-- the number of records: the plan, then the inventory, then record by record
abbrev pub rehearsed : Result PlanData ℕ → List ℕ → Result ℕ Fault
rehearsed read mtree = do
  plan ← in_plan read
  files ← in_file plan.host file.Mtree (inventory most_files mtree)
  unless (first_fault (record_fault files) [] plan.records) (length plan.records)

-- the answer for the plan that a text spells, or for the offset of its fault
pub record IsRehearsed (text mtree : List ℕ) (answer : Result ℕ Fault) : Type 0 where
  pub plan : Result PlanData ℕ
  pub reads : ReadsAs text plan
  pub answered : rehearsed plan mtree ≡ answer

-- What a call returned is such an answer, unless memory ran out.
-- fault e: the fault that an error tells, or None for want of memory
abbrev pub Rehearses : {E : Type 0} → (E → Option Fault) → List ℕ → List ℕ → Result ℕ E → Type 0
Rehearses fault text mtree (Ok n) = IsRehearsed text mtree (Ok n)
Rehearses fault text mtree (Err e) = IfSome (fault e) (λ f. IsRehearsed text mtree (Err f))
