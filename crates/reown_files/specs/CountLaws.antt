-- Laws over a count of the files of a plan.
-- Source: this project's own rule.
use Rattle.std.specs.Prelude.{◌≡◌, ℕ, ◌+◌, List, ◌∷◌, ◌++◌, Option, None, Some}
use Rattle.std.specs.Prelude.{slice_get, take, map, reverse, length}
use Rattle.reown_plan.specs.PlanData.{PlanRecord}
use Rattle.reown_files.specs.declared.answers.OpenFault.{OpenFault}
use Rattle.reown_files.specs.declared.answers.OpenFault.TheVariants.{File}
use Rattle.reown_files.specs.declared.answers.Trouble.{Trouble}
use Rattle.reown_files.specs.declared.counting.OwnerCounts.{OwnerCounts}
use Rattle.reown_files.specs.Calls.{Called, Looked, NotSeen}
use Rattle.reown_files.specs.Counting.{IsCount, StopsCount}

-- the path of the file that was looked at
abbrev pub path_looked_at : Called → Option (List ℕ)
path_looked_at (Looked path seen) = Some path
path_looked_at _ = None

-- the files of these records were looked at since, in their order, and no other call was made
abbrev pub LooksAtEach : List PlanRecord → List Called → List Called → Type 0
LooksAtEach records old new =
    (since : List Called) × (new ≡ reverse since ++ old)
    × (map path_looked_at since ≡ map (λ r. Some r.path) records)

-- the file of the record at a place could not be looked at, and those before it were
pub record StopsAtFile (records : List PlanRecord) (old new : List Called) (fault : OpenFault)
    : Type 0 where
  pub i : ℕ
  pub trouble : Trouble
  pub r : PlanRecord
  pub before : List Called
  pub told : fault ≡ File i trouble
  pub here : slice_get records i ≡ Some r
  pub looked : LooksAtEach (take i records) old before
  pub last : new ≡ NotSeen r.path trouble ∷ before

-- a count looks at the file of each record, and each is one of four; one that stops tells where
pub record FilesAreAllCounted (records : List PlanRecord) (old new : List Called) : Type 0 where
  pub looked : (counts : OwnerCounts) → IsCount records old new counts
      → LooksAtEach records old new
  pub add_up : (counts : OwnerCounts) → IsCount records old new counts
      → counts.before + counts.after + counts.missing + counts.foreign ≡ length records
  pub stopped : (fault : OpenFault) → StopsCount records old new fault
      → StopsAtFile records old new fault
