-- How a plan begins on a tree, and what it has done when it is finished.
-- Source: this project's own rule.
use Rattle.std.specs.Prelude.{◌≡◌, ◌⊎◌, ◌≢◌, ℕ, true, false, List, Option, None, Some, All}
use Rattle.std.specs.Prelude.{Contains, find, map}
use Rattle.std.specs.Str.{bytes_eq}
use Rattle.reown_plan.specs.declared.mark.PlanMark.{PlanMark}
use Rattle.reown_plan.specs.declared.plan.Owner.{Owner}
use Rattle.reown_plan.specs.Mark.{is_marked_for}
use Rattle.reown_plan.specs.PlanData.{PlanRecord}
use Rattle.reown_runner.specs.Tree.{TreeData, Cells, Image, IsSettled}

-- a tree is as its inventory, not marked for the plan, and nothing is pending
pub record IsFresh (inventory : List ℕ → Option Owner) (cells : Cells) : Type 0 where
  pub owner : (path : List ℕ) → cells.owner path ≡ inventory path
  pub mark : cells.mark ≡ false
  pub settled : IsSettled cells

-- the paths of the records are there at their old owners
abbrev pub AreOld : (List ℕ → Option Owner) → List PlanRecord → Type 0
AreOld inventory records = All (λ r. inventory r.path ≡ Some r.before) records

-- the owner of a file after its record, if it has one
abbrev pub after_record : Option PlanRecord → Option Owner → Option Owner
after_record None has = has
after_record (Some r) has = Some r.after

-- the owner of a file after the plan: the new one of its record, else what the inventory has
abbrev pub owner_after_plan : (List ℕ → Option Owner) → List PlanRecord → List ℕ → Option Owner
owner_after_plan inventory records path =
    after_record (find (λ r. bytes_eq path r.path) records) (inventory path)

-- the file at the path has the owner that the inventory tells, or the one after the plan
abbrev pub IsOldOrNew : (List ℕ → Option Owner) → List PlanRecord → Image → List ℕ → Type 0
IsOldOrNew inventory records image path =
    (image.owner path ≡ inventory path)
    ⊎ (image.owner path ≡ owner_after_plan inventory records path)

-- The lists of a safe tree: those of a planned file have its old and new owner, those of another
-- file its owner in the inventory, and those of a planned file its new owner alone where the marks'
-- list has one of the plan.
pub record HasSafeLists (plan : PlanMark) (inventory : List ℕ → Option Owner)
    (records : List PlanRecord) (tree : TreeData) : Type 0 where
  pub planned :
      All (λ r. (x : Option Owner) → Contains (tree.owners_left r.path) x → (x ≡ Some r.before)
      ⊎ (x ≡ Some r.after)) records
  pub others : (path : List ℕ) → All (λ r. r.path ≢ path) records → (x : Option Owner)
      → Contains (tree.owners_left path) x → x ≡ inventory path
  pub finished : Contains (map (is_marked_for plan) tree.marks_left) true
      → All (λ r. (x : Option Owner) → Contains (tree.owners_left r.path) x → x ≡ Some r.after)
      records
