-- A tree: a cell for each path, and one for the mark, which says of which plan it is. What a read
-- answers, and what a stop may leave: only a sync says that what was written stays.
-- Source: the usual model of a device with a write cache; chown(2), fsync(2).
use Rattle.std.specs.Prelude.{◌≡◌, ◌≢◌, ◌⊎◌, ◌↔◌, ℕ, ◌+◌, ◌<◌, ◌-◌, ◌^◌, Bool, true, List, Option}
use Rattle.std.specs.Prelude.{None, Some, Result, Ok, Err, map, min, Contains}
use Rattle.reown_plan.specs.declared.mark.PlanMark.{PlanMark}
use Rattle.reown_plan.specs.declared.plan.Owner.{Owner}
use Rattle.reown_plan.specs.Mark.{is_marked_for}

-- what is known of a tree: each cell's reading, and the values that a stop may leave there; how
-- often a call has failed; how many writes and syncs were asked for
pub record TreeData : Type 0 where
  pub owner : List ℕ → Option Owner
  pub owners_left : List ℕ → List (Option Owner)
  pub mark : Option PlanMark
  pub marks_left : List (Option PlanMark)
  pub faults : ℕ
  pub asked : ℕ

-- A tree as one plan sees it: each cell's reading, and what a stop may leave there. Its mark is set
-- where it is this plan's.
pub record Cells : Type 1 where
  pub owner : List ℕ → Option Owner
  pub owner_left : List ℕ → Option Owner → Type 0
  pub mark : Bool
  pub mark_left : Bool → Type 0

-- as the plan with this mark sees it
abbrev pub cells_of : PlanMark → TreeData → Cells
cells_of plan t =
    record {
      owner = t.owner;
      owner_left = λ path. Contains (t.owners_left path);
      mark = is_marked_for plan t.mark;
      mark_left = Contains (map (is_marked_for plan) t.marks_left);
    }

-- so it is for each plan
abbrev pub ForEachPlan : (Cells → Cells → Type 0) → TreeData → TreeData → Type 0
ForEachPlan Is old new = (plan : PlanMark) → Is (cells_of plan old) (cells_of plan new)

-- what is read now is among what a stop may leave
pub record IsReadable (c : Cells) : Type 0 where
  pub owner : (path : List ℕ) → c.owner_left path (c.owner path)
  pub mark : c.mark_left c.mark

-- what a stop leaves: some value in each cell
pub record Image : Type 0 where
  pub owner : List ℕ → Option Owner
  pub mark : Bool

-- each cell by itself has one of its values
pub record IsImage (c : Cells) (i : Image) : Type 0 where
  pub owner : (path : List ℕ) → c.owner_left path (i.owner path)
  pub mark : c.mark_left i.mark

-- a write or a sync
pub data Operation : Type 0 where
  Write : (path : List ℕ) (owner : Owner) → Operation
  SetMark : Operation
  Sync : Operation

-- no file's cell changes: what is read, and what a stop may leave
pub record SameOwners (old new : Cells) : Type 0 where
  pub owner : (path : List ℕ) → new.owner path ≡ old.owner path
  pub owner_left : (path : List ℕ) (x : Option Owner) → new.owner_left path x
      ↔ old.owner_left path x

-- the mark's cell does not change
pub record SameMark (old new : Cells) : Type 0 where
  pub mark : new.mark ≡ old.mark
  pub mark_left : (m : Bool) → new.mark_left m ↔ old.mark_left m

-- no cell changes
pub record Same (old new : Cells) : Type 0 where
  pub owners : SameOwners old new
  pub mark : SameMark old new

-- the file at the path has this owner; a stop leaves it, or what it might have left before; no
-- other cell changes
pub record Writes (path : List ℕ) (to : Owner) (old new : Cells) : Type 0 where
  pub owner : new.owner path ≡ Some to
  pub owner_left : (x : Option Owner) → new.owner_left path x → old.owner_left path x
      ⊎ (x ≡ Some to)
  pub other : (q : List ℕ) → q ≢ path → new.owner q ≡ old.owner q
  pub other_left : (q : List ℕ) → q ≢ path → (x : Option Owner) → new.owner_left q x
      ↔ old.owner_left q x
  pub mark : SameMark old new

-- the mark is set; a stop leaves it so, or as it might have left it before; no other cell changes
pub record SetsMark (old new : Cells) : Type 0 where
  pub mark : new.mark ≡ true
  pub mark_left : (m : Bool) → new.mark_left m → old.mark_left m ⊎ (m ≡ true)
  pub owners : SameOwners old new

-- No mark comes in but this plan's: what is read is it, or as before, and a stop leaves it, or what
-- it might have left before.
abbrev pub MarksNoOther : PlanMark → TreeData → TreeData → Type 0
MarksNoOther plan old new =
    ((new.mark ≡ old.mark) ⊎ (new.mark ≡ Some plan))
    × ((m : Option PlanMark) → Contains new.marks_left m
    → Contains old.marks_left m ⊎ (m ≡ Some plan))

-- the mark that is read is as it was, whichever plan it is of, or it is this plan's; and a stop
-- leaves no other plan's mark that it might not have left before
abbrev pub IsMarkedOnlyFor : PlanMark → TreeData → TreeData → Type 0
IsMarkedOnlyFor plan old new =
    ((new.mark ≡ old.mark) ⊎ (new.mark ≡ Some plan))
    × ((other : PlanMark) → Contains new.marks_left (Some other)
    → Contains old.marks_left (Some other) ⊎ (other ≡ plan))

-- nothing is pending: a stop leaves what is read
pub record IsSettled (c : Cells) : Type 0 where
  pub owner : (path : List ℕ) (x : Option Owner) → c.owner_left path x → x ≡ c.owner path
  pub mark : (m : Bool) → c.mark_left m → m ≡ c.mark

-- what is read stays, and nothing is pending
pub record Syncs (old new : Cells) : Type 0 where
  pub owner : (path : List ℕ) → new.owner path ≡ old.owner path
  pub mark : new.mark ≡ old.mark
  pub settled : IsSettled new

-- what an operation does, or none
abbrev pub Does : Option Operation → Cells → Cells → Type 0
Does None old new = Same old new
Does (Some (Write path owner)) old new = Writes path owner old new
Does (Some SetMark) old new = SetsMark old new
Does (Some Sync) old new = Syncs old new

-- a failed call has happened or not
abbrev pub MayDo : Operation → Cells → Cells → Type 0
MayDo operation old new = Does None old new ⊎ Does (Some operation) old new

-- a stop: each cell has a value that might be left, and nothing is pending
pub record Stops (old new : Cells) : Type 0 where
  pub owner : (path : List ℕ) → old.owner_left path (new.owner path)
  pub mark : old.mark_left new.mark
  pub settled : IsSettled new

-- one more, up to the last count
abbrev pub counted : ℕ → ℕ
counted n = min (n + 1) (2 ^ 64 - 1)

-- a call fails exactly where the count of faults rises, by one, and never at the last count
abbrev pub IsCounted : {X E : Type 0} → ℕ → ℕ → Result X E → Type 0
IsCounted before after (Ok x) = after ≡ before
IsCounted before after (Err e) = (after ≡ before + 1) × (after < 2 ^ 64)
