-- Which files a plan is begun with, and why not with others.
-- Source: this project's own rule.
use Rattle.std.specs.Prelude.{◌≡◌, ◌≢◌, ◌⊎◌, ◌∷◌, ℕ, List}
use Rattle.std.specs.Prelude.{Option, None, Some, ⊤, length, slice_get, take}
use Rattle.reown_plan.specs.declared.plan.Owner.{Owner}
use Rattle.reown_plan.specs.PlanData.{PlanRecord}
use Rattle.reown_files.specs.declared.answers.OpenFault.{OpenFault}
use Rattle.reown_files.specs.declared.answers.OpenFault.TheVariants.{Missing, Foreign, Unfinished}
use Rattle.reown_files.specs.declared.answers.OpenFault.TheVariants.{AlreadyChanged}
use Rattle.reown_files.specs.declared.answers.OpenFault.TheVariants.{File, Disk, Modes, Memory}
use Rattle.reown_files.specs.declared.stage.Stage.{Stage}
use Rattle.reown_files.specs.declared.stage.Stage.TheVariants.{NotBegun, Done}
use Rattle.reown_files.specs.Calls.{Called, Met}
use Rattle.reown_files.specs.Failed.{Last, FailsOn, FailsOnDisk, FailsOnModes}
use Rattle.reown_files.specs.Replay.{replay, found_of}
use Rattle.reown_files.specs.Stages.{AreAllowed}

-- the file of this record, the one at a place, was met with this owner or not there, and may not be
-- so at this stage of the plan
abbrev pub IsUnfit : Stage → ℕ → PlanRecord → Option Owner → OpenFault → Type 0
IsUnfit stage i r found (Missing at) = (at ≡ i) × (found ≡ None)
IsUnfit stage i r found (Foreign at owner) =
    (at ≡ i) × (found ≡ Some owner) × (owner ≢ r.before) × (owner ≢ r.after)
IsUnfit stage i r found (Unfinished at) =
    (at ≡ i) × (found ≡ Some r.before) × (r.before ≢ r.after) × (stage ≡ Done)
IsUnfit stage i r found (AlreadyChanged at) =
    (at ≡ i) × (found ≡ Some r.after) × (r.after ≢ r.before) × (stage ≡ NotBegun)
IsUnfit stage i r found _ = ⊥

-- the files of the records were met, each at an owner that it may have at this stage
pub record MetFit (stage : Stage) (records : List PlanRecord) (calls : List Called) : Type 0 where
  pub owners : List Owner
  pub as_many : length owners ≡ length records
  pub met : (path : List ℕ) → (replay calls).owner path ≡ found_of records owners path
  pub allowed : AreAllowed stage records owners

-- the call that was made last met a file that is unfit, and that is why; those of the records
-- before it are fit
pub record MetUnfit
    (stage : Stage) (records : List PlanRecord) (calls : List Called) (fault : OpenFault)
    : Type 0 where
  pub i : ℕ
  pub r : PlanRecord
  pub found : Option Owner
  pub before : List Called
  pub here : slice_get records i ≡ Some r
  pub last : calls ≡ Met r.path r.after found ∷ before
  pub unfit : IsUnfit stage i r found fault
  pub fit : MetFit stage (take i records) before

-- the call that was made last failed: on the file of the record at this place, on the mark or the
-- disk, or on the modes that are written down; or memory was refused
abbrev pub IsTrouble : List PlanRecord → List Called → OpenFault → Type 0
IsTrouble records calls (File i trouble) =
    (r : PlanRecord) × (slice_get records i ≡ Some r) × Last (FailsOn r.path trouble) calls
IsTrouble records calls (Disk trouble) = Last (FailsOnDisk trouble) calls
IsTrouble records calls (Modes trouble) = Last FailsOnModes calls
IsTrouble records calls Memory = ⊤
IsTrouble records calls _ = ⊥

abbrev pub IsRefusal : Stage → List PlanRecord → List Called → OpenFault → Type 0
IsRefusal stage records calls fault =
    IsTrouble records calls fault ⊎ MetUnfit stage records calls fault
