-- What one advance does.
-- Source: this project's own rule.
use Rattle.std.specs.Prelude.{◌≡◌, ◌⊎◌, ◌<◌, ◌^◌, ◌-◌, ⊤, min, IsSome, ℕ, ◌+◌, Bool, false, List}
use Rattle.std.specs.Prelude.{[], ◌∷◌, Option, None, Some, Result, Ok, Err, length, slice_get}
use Rattle.std.specs.Prelude.{nat_lt, if◌then◌else◌}
use Rattle.reown_plan.specs.declared.plan.Owner.{Owner}
use Rattle.reown_plan.specs.Owners.{owner_eq}
use Rattle.reown_plan.specs.PlanData.{PlanRecord}
use Rattle.reown_runner.specs.declared.runner.Place.{Place}
use Rattle.reown_runner.specs.declared.runner.Place.TheVariants.{Start, Record, SyncOwners, Mark}
use Rattle.reown_runner.specs.declared.runner.Place.TheVariants.{SyncMark, Done}
use Rattle.reown_runner.specs.declared.runner.Progress.{Progress}
use Rattle.reown_runner.specs.declared.runner.Progress.TheVariants.{Working, Done as Finished}
use Rattle.reown_runner.specs.declared.runner.RunFault.{RunFault}
use Rattle.reown_runner.specs.declared.runner.RunFault.TheVariants.{Device, Missing, Unfinished}
use Rattle.reown_runner.specs.declared.runner.RunFault.TheVariants.{Foreign}
use Rattle.reown_runner.specs.Tree.{Operation, Write, SetMark, Sync, counted}

-- an operation, if there is one, and the place after it
pub record Turn : Type 0 where
  pub operation : Option Operation
  pub next : Place

-- the place of the record i, or after the records
abbrev pub record_place : List PlanRecord → ℕ → Place
record_place records i = if nat_lt i (length records) then Record i else SyncOwners

-- at a record, by what its path reads as: the old owner is written over, the new one is passed
abbrev pub record_turn : ℕ → PlanRecord → Place → Option Owner → Result Turn RunFault
record_turn i planned next None = Err (Missing i)
record_turn i planned next (Some owner) =
    if owner_eq owner planned.before
    then Ok (record { operation = Some (Write planned.path planned.after); next = next })
    else (if owner_eq owner planned.after
    then Ok (record { operation = None; next = next })
    else Err (Foreign i))

abbrev pub turn_at : List PlanRecord → ℕ → Option PlanRecord → (List ℕ → Option Owner)
    → Result Turn RunFault
turn_at records i None owner = Ok (record { operation = None; next = SyncOwners })
turn_at records i (Some planned) owner =
    record_turn i planned (record_place records (i + 1)) (owner planned.path)

-- whether a file reads as at its new owner
abbrev pub is_new : PlanRecord → Option Owner → Bool
is_new planned None = false
is_new planned (Some owner) = owner_eq owner planned.after

-- what is wrong with the file of the record i, which does not read so though its plan is marked as
-- done
abbrev pub not_new : ℕ → PlanRecord → Option Owner → RunFault
not_new i planned None = Missing i
not_new i planned (Some owner) = if owner_eq owner planned.before then Unfinished i else Foreign i

-- where the mark is set, from the record i on: the first file that is not at its new owner is
-- refused, and else all is done
abbrev pub marked_turn : ℕ → List PlanRecord → (List ℕ → Option Owner) → Result Turn RunFault
marked_turn i [] owner = Ok (record { operation = None; next = Done })
marked_turn i (planned ∷ records) owner =
    if is_new planned (owner planned.path) then marked_turn (i + 1) records owner
    else Err (not_new i planned (owner planned.path))

-- what an advance does at a place, over a tree with these readings, where no call fails
abbrev pub turn : List PlanRecord → Place → (List ℕ → Option Owner) → Bool → Result Turn RunFault
turn records Start owner mark =
    if mark then marked_turn 0 records owner
    else Ok (record { operation = None; next = record_place records 0 })
turn records (Record i) owner mark = turn_at records i (slice_get records i) owner
turn records SyncOwners owner mark = Ok (record { operation = Some Sync; next = Mark })
turn records Mark owner mark = Ok (record { operation = Some SetMark; next = SyncMark })
turn records SyncMark owner mark = Ok (record { operation = Some Sync; next = Done })
turn records Done owner mark = Ok (record { operation = None; next = Done })

-- an advance answers and leaves this, where `Did` tells what was done: all of the turn; its
-- refusal, and nothing; or, where a call failed, nothing or its operation
abbrev pub IsAdvance : Result Turn RunFault → (Option Operation → Type 0) → Result Place RunFault
    → Type 0
IsAdvance plan Did (Ok next) = (t : Turn) × (plan ≡ Ok t) × (next ≡ t.next) × Did t.operation
IsAdvance plan Did (Err Device) = Did None ⊎ ((t : Turn) × (plan ≡ Ok t) × Did t.operation)
IsAdvance plan Did (Err (Missing i)) = (plan ≡ Err (Missing i)) × Did None
IsAdvance plan Did (Err (Unfinished i)) = (plan ≡ Err (Unfinished i)) × Did None
IsAdvance plan Did (Err (Foreign i)) = (plan ≡ Err (Foreign i)) × Did None

-- the place after an answer: a refusal leaves it
abbrev pub place_after : Place → Result Place RunFault → Place
place_after place (Ok next) = next
place_after place (Err fault) = place

abbrev pub progress_at : Place → Progress
progress_at Done = Finished
progress_at place = Working

-- the place that an advance gives with its answer
abbrev pub moved : Place → Result Progress RunFault → Result Place RunFault
moved place (Ok progress) = Ok place
moved place (Err fault) = Err fault

-- the fault of the device is told exactly where the count of faults rises, which it does by one
abbrev pub IsTold : {X : Type 0} → ℕ → ℕ → Result X RunFault → Type 0
IsTold before after (Ok x) = after ≡ before
IsTold before after (Err Device) = (after ≡ before + 1) × (after < 2 ^ 64)
IsTold before after (Err fault) = after ≡ before

-- nothing was asked for, or the one operation of the turn
abbrev pub IsAsked : Result Turn RunFault → ℕ → ℕ → Type 0
IsAsked plan before after =
    (after ≡ before) ⊎ ((t : Turn) × (plan ≡ Ok t) × IsSome t.operation × (after ≡ counted before))

-- the place is one of a plan with these records
abbrev pub IsPlaceOf : List PlanRecord → Place → Type 0
IsPlaceOf records (Record i) = i < length records
IsPlaceOf records place = ⊤

-- how many advances lead to the end, where the mark is not set yet
abbrev pub advances_left : List PlanRecord → Place → ℕ
advances_left records Start = length records + 4
advances_left records (Record i) = length records - i + 3
advances_left records SyncOwners = 3
advances_left records Mark = 2
advances_left records SyncMark = 1
advances_left records Done = 0

-- how many of them write or sync at most
abbrev pub operations_left : List PlanRecord → Place → ℕ
operations_left records place = min (advances_left records place) (length records + 3)
