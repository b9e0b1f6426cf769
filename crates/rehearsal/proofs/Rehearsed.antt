-- What a rehearsal answers, from its parts.
use Rattle.std.proofs.Common.{◌≡◌, ℕ, List, [], length, Option, None, Some, Result, Ok, Err, IfSome, sym, ◌∙◌, ap, subst}
use Rattle.idtext.specs.First.{◌>>=◌, Gives, first_fault, unless}
use Rattle.mtree_inv.specs.declared.entry.Entry.{Entry}
use Rattle.mtree_inv.specs.Inventory.{inventory}
use Rattle.reown_plan.specs.PlanData.{PlanData}
use Rattle.reown_plan.specs.Reading.{ReadsAs}
use Rattle.unify_texts.specs.declared.bundle_line.FileName.TheVariants as file
use Rattle.unify_texts.specs.declared.fault.Fault.{Fault}
use Rattle.unify_texts.specs.declared.fault.Fault.TheVariants.{BadPlan}
use Rattle.unify_texts.specs.Told.{told, in_file}
use Rattle.rehearsal.specs.Rehearsing.{IsRehearsed, Rehearses, record_fault, rehearsed}

module _ (mtree : List ℕ) (plan : PlanData) (host : List ℕ) (same : host ≡ plan.host) where
  abbrev carried : List Entry → Result ℕ Fault
  carried files = unless (first_fault (record_fault files) [] plan.records) (length plan.records)

  as_read : (read : Result (List Entry) Fault) → in_file host file.Mtree (inventory 16777216 mtree) ≡ read → rehearsed (Ok plan) mtree ≡ (read >>= carried)
  as_read read e = ap (λ h. in_file h file.Mtree (inventory 16777216 mtree) >>= carried) (sym same) ∙ ap (λ r. r >>= carried) e

  pub carried_out : (files : List Entry) → in_file host file.Mtree (inventory 16777216 mtree) ≡ Ok files → (result : Result ℕ Fault) → Gives (λ n. n) told result (carried files) → Gives (λ n. n) told result (rehearsed (Ok plan) mtree)
  carried_out files read result h = subst (Gives (λ n. n) told result) (sym (as_read (Ok files) read)) h

module _ (text mtree : List ℕ) where
  pub plan_refused : (o : Option Fault) → IfSome o (λ f. (offset : ℕ) × (f ≡ BadPlan offset) × ReadsAs text (Err offset)) → IfSome o (λ f. IsRehearsed text mtree (Err f))
  plan_refused None h = tt
  plan_refused (Some f) h = record { plan = Err h.0; reads = h.2; answered = ap (λ g. Err g) (sym h.1) }

  -- what a plan that the text spells gives
  pub plan_answers : (plan : PlanData) → ReadsAs text (Ok plan) → (result : Result ℕ Fault) → Gives (λ n. n) told result (rehearsed (Ok plan) mtree) → Rehearses told text mtree result
  plan_answers plan reads (Ok n) h = record { plan = Ok plan; reads = reads; answered = h }
  plan_answers plan reads (Err e) h = refused (told e) h
    where
      refused : (o : Option Fault) → IfSome o (λ f. rehearsed (Ok plan) mtree ≡ Err f) → IfSome o (λ f. IsRehearsed text mtree (Err f))
      refused None h = tt
      refused (Some f) h = record { plan = Ok plan; reads = reads; answered = h }
