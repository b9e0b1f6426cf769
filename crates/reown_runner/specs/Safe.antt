-- When a stop does no harm, and which places go with which tree.
-- Source: this project's own rule.
use Rattle.std.specs.Prelude.{◌≡◌, ◌≢◌, ◌⊎◌, ℕ, ◌<◌, true, List, Option, Some, take, length, All}
use Rattle.reown_plan.specs.declared.plan.Owner.{Owner}
use Rattle.reown_plan.specs.PlanData.{PlanRecord}
use Rattle.reown_runner.specs.declared.runner.Place.{Place}
use Rattle.reown_runner.specs.declared.runner.Place.TheVariants.{Start, Record, SyncOwners, Mark}
use Rattle.reown_runner.specs.declared.runner.Place.TheVariants.{SyncMark, Done}
use Rattle.reown_runner.specs.Tree.{Cells, Image, IsImage, IsSettled}

-- each of these files has its new owner
abbrev pub AllNew : List PlanRecord → Image → Type 0
AllNew records i = All (λ c. i.owner c.path ≡ Some c.after) records

-- each planned file has its old or its new owner, every other is as in the inventory, and the mark
-- is set only where all is done
pub record IsSafeImage (inventory : List ℕ → Option Owner) (records : List PlanRecord) (i : Image) :
    Type 0 where
  pub planned : All (λ c. (i.owner c.path ≡ Some c.before) ⊎ (i.owner c.path ≡ Some c.after))
      records
  pub others : (path : List ℕ) → All (λ c. c.path ≢ path) records → i.owner path ≡ inventory path
  pub finished : i.mark ≡ true → AllNew records i

-- whatever a stop leaves is safe
abbrev pub IsSafe : (List ℕ → Option Owner) → List PlanRecord → Cells → Type 0
IsSafe inventory records cells = (i : Image) → IsImage cells i → IsSafeImage inventory records i

-- a stop leaves each of these files at its new owner
abbrev pub IsAllNew : List PlanRecord → Cells → Type 0
IsAllNew records cells = (i : Image) → IsImage cells i → AllNew records i

-- a stop leaves the mark set
abbrev pub IsMarked : Cells → Type 0
IsMarked cells = (i : Image) → IsImage cells i → i.mark ≡ true

-- the files of these records read as new
abbrev pub ReadNew : List PlanRecord → Cells → Type 0
ReadNew records cells = All (λ c. cells.owner c.path ≡ Some c.after) records

-- what a place means for the tree
abbrev pub IsInStep : List PlanRecord → Place → Cells → Type 0
IsInStep records Start cells = IsSettled cells
IsInStep records (Record i) cells = (i < length records) × ReadNew (take i records) cells
IsInStep records SyncOwners cells = ReadNew records cells
IsInStep records Mark cells = IsAllNew records cells
IsInStep records SyncMark cells = IsAllNew records cells × (cells.mark ≡ true)
IsInStep records Done cells = IsAllNew records cells × IsMarked cells

-- whatever a stop leaves is safe, and the place goes with the tree
pub record IsSafeInStep (inventory : List ℕ → Option Owner) (records : List PlanRecord)
    (place : Place) (cells : Cells) : Type 0 where
  pub safe : IsSafe inventory records cells
  pub in_step : IsInStep records place cells
