-- A rehearsal goes by the whole inventory.
-- Source: this project's own rule.
use Rattle.std.specs.Prelude.{◌≡◌, ◌≢◌, ◌++◌, ◌⊎◌, ◌∷◌, ℕ, List, [], Ok, Err, Some}
use Rattle.rehearsal.specs.Rehearsing.{IsRehearsed}
use Rattle.unify_texts.specs.declared.fault.Fault.{Fault}
use Rattle.unify_texts.specs.declared.fault.Fault.TheVariants.{Memory}
use Rattle.unify_merge.specs.FirstReading.{readings_from}
use Rattle.unify_merge.specs.Ledger.{Ledger}
use Rattle.unify_merge.specs.Rehearse.{HasRehearsed, StopsRehearsal}
use Rattle.unify_merge.specs.declared.fault.MergeFault.TheVariants.{Refused}

-- the inventory was read to its end, once
abbrev pub WasRead : List ℕ → Ledger → Ledger → Type 0
WasRead mtree old new = new.read ≡ old.read ++ readings_from 0 (mtree ∷ [])

-- what is answered is the answer for the whole of it
abbrev pub RehearsalsReadToTheEnd : Type 0
RehearsalsReadToTheEnd = (plan : List ℕ) (old new : Ledger) (n : ℕ) → HasRehearsed plan old new n
    → (mtree : List ℕ) × WasRead mtree old new × IsRehearsed plan mtree (Ok n)

-- A fault that is told is the one of the plan, and nothing was read; or the one of the inventory
-- that was read; or of any inventory that begins as this one did, as far as it was read.
abbrev pub RefusedRehearsalsTellTheirFault : Type 0
RefusedRehearsalsTellTheirFault = (plan : List ℕ) (old new : Ledger) (f : Fault) → f ≢ Memory
    → StopsRehearsal plan old new (Refused f)
    → ((new ≡ old) × ((mtree : List ℕ) → IsRehearsed plan mtree (Err f)))
    ⊎ ((mtree : List ℕ)
    × ((WasRead mtree old new × IsRehearsed plan mtree (Err f))
    ⊎ ((new.reading ≡ Some (record { host = 0; text = mtree }))
    × ((more : List ℕ) → IsRehearsed plan (mtree ++ more) (Err f)))))
