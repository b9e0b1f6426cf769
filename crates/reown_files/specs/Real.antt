-- A tree of real files, as its user sees it.
-- Source: this project's own rule.
use Rattle.std.specs.Prelude.{◌≡◌, ◌⊎◌, ◌<◌, ◌+◌, ◌^◌, ℕ, Bool, true, false, List, []}
use Rattle.std.specs.Prelude.{◌∷◌, ◌++◌}
use Rattle.std.specs.Prelude.{Option, None, Some, ⊤, map, position, slice_get}
use Rattle.std.specs.Str.{bytes_eq}
use Rattle.std.proofs.Common.{refl, sym, ap, ◌∙◌}
use Rattle.std.proofs.lemmas.List.{append_assoc}
use Rattle.reown_plan.specs.declared.mark.PlanMark.{PlanMark}
use Rattle.reown_plan.specs.declared.plan.Owner.{Owner}
use Rattle.reown_plan.specs.Mark.{mark_eq}
use Rattle.reown_plan.specs.PlanData.{PlanRecord}
use Rattle.reown_runner.specs.Tree.{TreeData, IsReadable, cells_of}
use Rattle.reown_runner.specs.Memory.{Mem, known_mem}
use Rattle.reown_runner.specs.MemoryReads.{readable_mem}
use Rattle.reown_files.specs.Calls.{Called, Kept}
use Rattle.reown_files.specs.declared.answers.Failure.{Failure}
use Rattle.reown_files.specs.Failed.{Last, AskedLast, FailsToGive, FailsToPut, FailsToSettle}
use Rattle.reown_files.specs.Lawful.{is_of}
use Rattle.reown_files.specs.Replay.{replay}

-- the mark and the records of its plan; what it holds their files to be, with which each read is
-- compared; whether each file was kept since the last write; whether it was stopped; how often a
-- call has failed, where the last one did, and how many writes and syncs were asked of it; and what
-- was asked of its disk
pub record RealData : Type 0 where
  pub mark : PlanMark
  pub records : List PlanRecord
  pub tree : Mem
  pub is_kept : Bool
  pub is_stopped : Bool
  pub faults : ℕ
  pub failure : Option Failure
  pub asked : ℕ
  pub calls : List Called

abbrev pub known_real : RealData → TreeData
known_real r =
    record {
      owner = (known_mem r.tree).owner;
      owners_left = (known_mem r.tree).owners_left;
      mark = (known_mem r.tree).mark;
      marks_left = (known_mem r.tree).marks_left;
      faults = r.faults;
      asked = r.asked;
    }

-- what is held is what the calls have made of the files and the mark
pub record IsReplay (calls : List Called) (tree : Mem) : Type 0 where
  pub owner : (path : List ℕ) → (known_mem tree).owner path ≡ (replay calls).owner path
  pub mark : (known_mem tree).mark ≡ (replay calls).mark

-- and so it is while fewer than 2 ^ 64 - 1 calls have failed: by the contract of a tree no call
-- fails after that
abbrev pub HoldsReplay : ℕ → List Called → Mem → Type 0
HoldsReplay faults calls tree = faults + 1 < 2 ^ 64 → IsReplay calls tree

-- a stop may leave what is read
pub readable_real : (r : RealData) (plan : PlanMark) → IsReadable (cells_of plan (known_real r))
readable_real r plan =
    record { owner = (readable_mem r.tree plan).owner; mark = (readable_mem r.tree plan).mark }

-- these calls are those and what was asked since
abbrev pub Grows : List Called → List Called → Type 0
Grows old new = (more : List Called) × (new ≡ more ++ old)

pub grows_on : (a b c : List Called) → Grows a b → Grows b c → Grows a c
grows_on a b c x y = (
  y.0 ++ x.0,
  y.1 ∙ ap (λ calls. y.0 ++ calls) x.1 ∙ sym (append_assoc y.0 x.0 a),
)

-- a tree later on: of the same plan, and no call is forgotten
pub record IsLater (before after : RealData) : Type 0 where
  pub mark : after.mark ≡ before.mark
  pub records : after.records ≡ before.records
  pub calls : Grows before.calls after.calls

pub later_rests : (r : RealData) → IsLater r r
later_rests r = record { mark = refl; records = refl; calls = ([], refl) }

pub later_goes_on : (a b c : RealData) → IsLater a b → IsLater b c → IsLater a c
later_goes_on a b c x y =
    record {
      mark = y.mark ∙ x.mark;
      records = y.records ∙ x.records;
      calls = grows_on a.calls b.calls c.calls x.calls y.calls;
    }

-- ---- what a call changes

-- nothing is new but what was asked of the disk, and where a call failed
abbrev pub AsksMore : RealData → RealData → Type 0
AsksMore old new = new ≡ record old { failure = new.failure; calls = new.calls }

-- nothing is new but whether each file is kept, what was asked of the disk, and where a call failed
abbrev pub KeepsMore : RealData → RealData → Type 0
KeepsMore old new =
    new ≡ record old { is_kept = new.is_kept; failure = new.failure; calls = new.calls }

-- nothing is new but what is held, whether each file is kept, whether the tree is stopped, what was
-- asked of the disk, and where a call failed
abbrev pub GivesMore : RealData → RealData → Type 0
GivesMore old new =
    new
    ≡ record old {
      tree = new.tree;
      is_kept = new.is_kept;
      is_stopped = new.is_stopped;
      failure = new.failure;
      calls = new.calls;
    }

-- nothing is new but what is held, what was asked of the disk, and where a call failed
abbrev pub PutsMore : RealData → RealData → Type 0
PutsMore old new = new ≡ record old { tree = new.tree; failure = new.failure; calls = new.calls }

-- ---- where a call failed

-- the place of the record with this path, if one has it
abbrev pub place_of : List PlanRecord → List ℕ → Option ℕ
place_of records path = position (bytes_eq path) (map (λ r. r.path) records)

-- a call failed, and this is the place that is told
abbrev pub FailsAt : Option ℕ → Option Failure → Type 0
FailsAt place None = ⊥
FailsAt place (Some failure) = failure.place ≡ place

-- the file of the record at this place was to be kept by the last call, which failed; or that was
-- the sync of all or of the mark, which is told as none's
abbrev pub WasNotKept : List PlanRecord → List Called → Option ℕ → Type 0
WasNotKept records calls None = Last FailsToSettle calls
WasNotKept records calls (Some i) =
    (r : PlanRecord) × (slice_get records i ≡ Some r)
    × ((before : List Called) × (calls ≡ Kept r.path r.after false ∷ before))

-- a sync failed: so, or since the tree had been stopped
abbrev pub FailsToSync : RealData → RealData → Option Failure → Type 0
FailsToSync old new None = ⊥
FailsToSync old new (Some failure) =
    ((old.is_stopped ≡ true) × (failure.place ≡ None))
    ⊎ WasNotKept old.records new.calls failure.place

-- ---- why it failed

-- the tree had been stopped, or the last call that was made on the disk is such
abbrev pub FailsBy : (Called → Type 0) → RealData → RealData → Type 0
FailsBy Is old new = (old.is_stopped ≡ true) ⊎ AskedLast Is old.calls new.calls

-- the file is not there, or the record with its path has another change
abbrev pub IsOutside : List PlanRecord → List ℕ → Option Owner → Owner → Type 0
IsOutside records path None after = ⊤
IsOutside records path (Some before) after =
    (i : ℕ) (r : PlanRecord) → place_of records path ≡ Some i → slice_get records i ≡ Some r
    → is_of path before after r ≡ false

-- the file of this path was not given this owner
abbrev pub IsNotGiven : List ℕ → Owner → RealData → RealData → Type 0
IsNotGiven path after old new =
    IsOutside old.records path ((known_real old).owner path) after
    ⊎ FailsBy (FailsToGive path after) old new

-- the mark was not put: it is another plan's, or not each file was kept after the last change
abbrev pub IsNotPut : PlanMark → RealData → RealData → Type 0
IsNotPut plan old new =
    (mark_eq plan old.mark ≡ false) ⊎ (old.is_kept ≡ false) ⊎ FailsBy (FailsToPut plan) old new
