-- What a rehearsal of a plan does, from the bytes that it reads to its answer. Of the files it
-- reads the first inventory.
-- Source: this project's own rule.
use Rattle.std.specs.Prelude.{◌≡◌, ℕ, ◌⊎◌, List, Ok, Err}
use Rattle.reown_plan.specs.PlanData.{PlanData}
use Rattle.reown_plan.specs.Reading.{ReadsAs}
use Rattle.unify_texts.specs.declared.fault.Fault.{Fault}
use Rattle.unify_texts.specs.declared.fault.Fault.TheVariants.{BadPlan}
use Rattle.rehearsal.specs.PlanRehearsal.{IsRefusedBy}
use Rattle.rehearsal.specs.Rehearsing.{rehearsed}
use Rattle.unify_merge.specs.FirstReading.{HasRead, IsReading, IsWithinLimit, StopsFor}
use Rattle.unify_merge.specs.Ledger.{Ledger, Reading}
use Rattle.unify_merge.specs.declared.fault.MergeFault.{MergeFault}

-- ---- the inventory

-- it was read once, and with it this is the answer for the plan
abbrev pub HasCarriedOut : PlanData → List Reading → Ledger → ℕ → Type 0
HasCarriedOut plan before l n =
    (text : List ℕ) × HasRead before 0 text l × (rehearsed (Ok plan) text ≡ Ok n)
    × IsWithinLimit text

-- The first fault: what was read so far has it, whatever comes after that; or all that was read.
abbrev pub IsCarryingFault : PlanData → List Reading → Ledger → Fault → Type 0
IsCarryingFault plan before l f = (text : List ℕ)
    × ((IsReading before 0 text l × IsRefusedBy plan text f)
    ⊎ (HasRead before 0 text l × (rehearsed (Ok plan) text ≡ Err f)))

-- why it ended early
abbrev pub StopsCarrying : PlanData → List Reading → Ledger → MergeFault → Type 0
StopsCarrying plan before l = StopsFor (IsCarryingFault plan before l) l

-- ---- with the text of the plan

abbrev pub HasRehearsed : List ℕ → Ledger → Ledger → ℕ → Type 0
HasRehearsed text old new n =
    (plan : PlanData) × ReadsAs text (Ok plan) × HasCarriedOut plan old.read new n

-- the first fault of what was read: of the plan, and then no inventory was read, or of the rest
abbrev pub IsRehearsalFault : List ℕ → Ledger → Ledger → Fault → Type 0
IsRehearsalFault text old new f =
    ((offset : ℕ) × ReadsAs text (Err offset) × (f ≡ BadPlan offset) × (new ≡ old))
    ⊎ ((plan : PlanData) × ReadsAs text (Ok plan) × IsCarryingFault plan old.read new f)

abbrev pub StopsRehearsal : List ℕ → Ledger → Ledger → MergeFault → Type 0
StopsRehearsal text old new = StopsFor (IsRehearsalFault text old new) new
