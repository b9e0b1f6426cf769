-- What the turns of a plan do, whatever the tree is that they go over.
-- Source: this project's own rule.
use Rattle.std.specs.Prelude.{◌≡◌, ◌≢◌, ◌⊎◌, ◌<◌, ℕ, Bool, true, List, Option, None, Some, Ok, Err}
use Rattle.std.specs.Prelude.{slice_get, All}
use Rattle.reown_plan.specs.declared.plan.Owner.{Owner}
use Rattle.reown_plan.specs.PlanData.{PlanRecord}
use Rattle.reown_runner.specs.declared.runner.Place.{Place}
use Rattle.reown_runner.specs.declared.runner.Place.TheVariants.{Start, Record}
use Rattle.reown_runner.specs.declared.runner.RunFault.TheVariants.{Missing, Unfinished, Foreign}
use Rattle.reown_runner.specs.Step.{Turn, turn}
use Rattle.reown_runner.specs.Tree.{Write}

-- a file that is written over reads as at the old owner of its record, and gets the new one
abbrev pub OldFilesAreWritten : Type 0
OldFilesAreWritten =
    (records : List PlanRecord) (place : Place) (owner : List ℕ → Option Owner) (mark : Bool)
    (t : Turn) (path : List ℕ) (new : Owner) → turn records place owner mark ≡ Ok t
    → t.operation ≡ Some (Write path new) → (i : ℕ) × (planned : PlanRecord)
    × (slice_get records i ≡ Some planned) × (planned.path ≡ path) × (planned.after ≡ new)
    × (owner path ≡ Some planned.before)

-- a mark that is found is believed where each file reads as at its new owner
abbrev pub MarksAreLookedInto : Type 0
MarksAreLookedInto =
    (records : List PlanRecord) (owner : List ℕ → Option Owner) (t : Turn)
    → turn records Start owner true ≡ Ok t
    → All (λ planned. owner planned.path ≡ Some planned.after) records

-- what is told of the file of a record is so
pub record IsToldTruly (records : List PlanRecord) (place : Place) (owner : List ℕ → Option Owner)
    (mark : Bool) (i : ℕ) (planned : PlanRecord) : Type 0 where
  pub missing : turn records place owner mark ≡ Err (Missing i) → owner planned.path ≡ None
  pub foreign : turn records place owner mark ≡ Err (Foreign i) → (found : Owner)
      × (owner planned.path ≡ Some found) × (found ≢ planned.before) × (found ≢ planned.after)
  pub unfinished : turn records place owner mark ≡ Err (Unfinished i)
      → (mark ≡ true) × (owner planned.path ≡ Some planned.before)

-- a turn looks at the file of the record i: its place is there; or it is at the start, with the
-- mark set, and the file of each record before reads as at its new owner
abbrev pub IsLookedAt : List PlanRecord → Place → (List ℕ → Option Owner) → Bool → ℕ → Type 0
IsLookedAt records place owner mark i =
    (place ≡ Record i)
    ⊎ ((place ≡ Start) × (mark ≡ true)
    × ((k : ℕ) (planned : PlanRecord) → k < i → slice_get records k ≡ Some planned
    → owner planned.path ≡ Some planned.after))

-- and what is so of that file is told: it is not there; it has neither of its owners; or, where the
-- mark is set, it has its old one
pub record HasToBeTold (records : List PlanRecord) (place : Place) (owner : List ℕ → Option Owner)
    (mark : Bool) (i : ℕ) (planned : PlanRecord) : Type 0 where
  pub missing : owner planned.path ≡ None → turn records place owner mark ≡ Err (Missing i)
  pub foreign : (found : Owner) → owner planned.path ≡ Some found → found ≢ planned.before
      → found ≢ planned.after → turn records place owner mark ≡ Err (Foreign i)
  pub unfinished : place ≡ Start → owner planned.path ≡ Some planned.before
      → planned.before ≢ planned.after → turn records place owner mark ≡ Err (Unfinished i)
