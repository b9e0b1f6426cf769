-- Why a rehearsal ended early.
use Rattle.std.proofs.Common.{ℕ, List, Ok, IfSome, inl, inr}
use Rattle.reown_plan.specs.PlanData.{PlanData}
use Rattle.reown_plan.specs.Reading.{ReadsAs}
use Rattle.unify_texts.specs.Told.{told}
use Rattle.unify_texts.specs.declared.fault.Fault.{Fault}
use Rattle.rehearsal.specs.PlanRehearsal.{IsRefusedBy}
use Rattle.unify_merge.specs.FirstReading.{IsReading}
use Rattle.unify_merge.specs.Ledger.{Ledger, Reading}
use Rattle.unify_merge.specs.Rehearse.{StopsCarrying, StopsRehearsal}
use Rattle.unify_merge.specs.declared.fault.MergeFault.{MergeFault}
use Rattle.unify_merge.specs.declared.fault.MergeFault.TheVariants.{Refused}
use Rattle.unify_merge.proofs.Stops.{if_told, stops_map}

-- what came is refused
pub piece_refused : (plan : PlanData) (text : List ℕ) (before : List Reading) (l : Ledger) (e : Fault) → IsReading before 0 text l → IfSome (told e) (IsRefusedBy plan text) → StopsCarrying plan before l (Refused e)
piece_refused plan text before l e reading fault = if_told (told e) _ _ (λ f is. (text, inl (reading, is))) fault

-- with the text of the plan
pub rehearsal_stopped : (text : List ℕ) (plan : PlanData) (old new : Ledger) (fault : MergeFault) → ReadsAs text (Ok plan) → StopsCarrying plan old.read new fault → StopsRehearsal text old new fault
rehearsal_stopped text plan old new fault reads = stops_map _ _ new fault (λ f is. inr (plan, reads, is))
