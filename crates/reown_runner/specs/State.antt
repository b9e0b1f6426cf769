-- A tree as its history: how it began, and the operations since. Its mark is set where it is that
-- of the plan that sees it.
-- Source: the usual model of a device with a write cache; fsync(2).
use Rattle.std.specs.Prelude.{◌≡◌, ◌≢◌, ℕ, Bool, true, List, [], ◌∷◌, ◌++◌, Option, None, Some}
use Rattle.std.specs.Prelude.{fold, if◌then◌else◌}
use Rattle.std.specs.List.{AllByRecursion}
use Rattle.std.specs.Str.{bytes_eq}
use Rattle.reown_plan.specs.declared.mark.PlanMark.{PlanMark}
use Rattle.reown_plan.specs.declared.plan.Owner.{Owner}
use Rattle.reown_runner.specs.Tree.{TreeData, Cells, Image, Operation, Write, SetMark, Sync}
use Rattle.reown_runner.specs.Tree.{cells_of}

pub record State : Type 0 where
  pub start : Image
  pub operations : List Operation

-- nothing has happened since the tree was this image
abbrev pub fresh : Image → State
fresh image = record { start = image; operations = [] }

abbrev pub did : Option Operation → State → State
did None s = s
did (Some operation) s = record { start = s.start; operations = s.operations ++ operation ∷ [] }

-- a file's owner after one more operation
abbrev pub owner_then : List ℕ → Option Owner → Operation → Option Owner
owner_then path owner (Write q new) = if bytes_eq q path then Some new else owner
owner_then path owner SetMark = owner
owner_then path owner Sync = owner

abbrev pub mark_then : Bool → Operation → Bool
mark_then mark (Write q new) = mark
mark_then mark SetMark = true
mark_then mark Sync = mark

-- what a read answers after these operations: the last value written
abbrev pub owner_after : State → List ℕ → List Operation → Option Owner
owner_after s path operations = fold (owner_then path) (s.start.owner path) operations

abbrev pub mark_after : State → List Operation → Bool
mark_after s operations = fold mark_then s.start.mark operations

-- a front of the operations that is not shorter than the one ending at the last sync
pub record IsKept (operations front : List Operation) : Type 0 where
  pub lost : List Operation
  pub whole : front ++ lost ≡ operations
  pub no_sync : AllByRecursion (λ operation. operation ≢ Sync) lost

-- a stop leaves in each cell, by itself, what was read there after such a front
abbrev pub cells_at : State → Cells
cells_at s =
    record {
      owner = λ path. owner_after s path s.operations;
      owner_left = λ path owner. (front : List Operation) × IsKept s.operations front
          × (owner ≡ owner_after s path front);
      mark = mark_after s s.operations;
      mark_left = λ mark. (front : List Operation) × IsKept s.operations front
          × (mark ≡ mark_after s front);
    }

-- the readings of files agree, and a stop leaves in the second only what it might leave in the
-- first
pub record KeepsOwners (first second : Cells) : Type 0 where
  pub owner : (path : List ℕ) → second.owner path ≡ first.owner path
  pub owner_left : (path : List ℕ) (x : Option Owner) → second.owner_left path x
      → first.owner_left path x

-- and so for the mark
pub record KeepsMark (first second : Cells) : Type 0 where
  pub mark : second.mark ≡ first.mark
  pub mark_left : (m : Bool) → second.mark_left m → first.mark_left m

pub record Keeps (first second : Cells) : Type 0 where
  pub owners : KeepsOwners first second
  pub mark : KeepsMark first second

-- as the plan sees the tree, the readings agree, and a stop leaves in the tree only what it might
-- leave in the state
abbrev pub StandsFor : PlanMark → TreeData → State → Type 0
StandsFor plan tree s = Keeps (cells_at s) (cells_of plan tree)
