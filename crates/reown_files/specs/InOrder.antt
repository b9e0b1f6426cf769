-- What was asked before each call that is lawful, and after it. The calls stand with the newest
-- first: of `later ++ call ∷ earlier` those of `earlier` were made before the call, and those of
-- `later` after it.
-- Source: this project's own rule; chown(2) for modes, which a change of the owner may clear.
use Rattle.std.specs.Prelude.{◌≡◌, ◌≢◌, ℕ, Bool, true, List, [], ◌∷◌, ◌++◌, Option, Some}
use Rattle.std.specs.Prelude.{◌⊎◌, All, ⊤}
use Rattle.std.specs.List.{Contains}
use Rattle.reown_plan.specs.declared.mark.PlanMark.{PlanMark}
use Rattle.reown_plan.specs.declared.plan.Owner.{Owner}
use Rattle.reown_plan.specs.Mark.{is_marked_for}
use Rattle.reown_plan.specs.PlanData.{PlanRecord}
use Rattle.reown_files.specs.declared.answers.Modes.{Modes}
use Rattle.reown_files.specs.Calls.{Called, MetMark, CheckedLinks, Gave, SetMode, Kept}
use Rattle.reown_files.specs.Calls.{Settled, PutMark, KeptMark, ReadModes, LostMode, PutModes}
use Rattle.reown_files.specs.Failed.{Last}
use Rattle.reown_files.specs.Lawful.{is_lawful, is_mark_kept}
use Rattle.reown_files.specs.Replay.{replay}

-- this call was made, and after it only calls that leave what it did
abbrev pub WasMade : Called → (Called → Type 0) → List Called → Type 0
WasMade call Leaves calls =
    (since first : List Called) × (calls ≡ since ++ call ∷ first) × All Leaves since

-- ---- before a file is given an owner

-- the names of each file were seen to be all in the plan, and the mode was asked for that an
-- earlier run of this plan had lost of it
pub record WereLookedAt (mark : PlanMark) (records : List PlanRecord) (calls : List Called)
    : Type 0 where
  pub checked : All (λ r. Contains calls (CheckedLinks r.path true)) records
  pub asked : All (λ r. (mode : Option ℕ) × Contains calls (LostMode mark r.path r.after mode))
      records

-- a change of a file that was foreseen: a record has it; the modes that the run may lose were
-- written down for this plan, and before that each file was looked at
pub record IsForeseen (mark : PlanMark) (records : List PlanRecord) (change : PlanRecord)
    (earlier : List Called) : Type 0 where
  pub planned : Contains records change
  pub written : (since first : List Called) × (earlier ≡ since ++ PutModes mark true ∷ first)
      × WereLookedAt mark records first

-- and so is each change
abbrev pub ChangesAreForeseen : Type 0
ChangesAreForeseen =
    (mark : PlanMark) (records : List PlanRecord) (later earlier : List Called) (r : PlanRecord)
    (modes : Option Modes)
    → is_lawful mark records (later ++ Gave r.path r.before r.after modes ∷ earlier) ≡ true
    → IsForeseen mark records r earlier

-- ---- modes

-- the next call was to set this mode of a file that has this owner
abbrev pub IsSetNext : List ℕ → Owner → ℕ → List Called → Type 0
IsSetNext path owner mode later =
    (rest : List Called) × (done : Bool) × (later ≡ rest ++ SetMode path owner mode done ∷ [])

-- the call has taken this mode from a file that it gave this owner, or has told that an earlier
-- run had taken it from the file of this owner
abbrev pub TookMode : List ℕ → Owner → ℕ → Called → Type 0
TookMode path owner mode (Gave q before after (Some modes)) =
    (q ≡ path) × (after ≡ owner) × (modes.before ≡ mode)
TookMode path owner mode (LostMode plan q at (Some lost)) =
    (q ≡ path) × (at ≡ owner) × (lost ≡ mode)
TookMode path owner mode _ = ⊥

-- a mode that a change has taken is set again by the next call, and so is one that an earlier run
-- had lost; and no mode is set otherwise
pub record ModesAreSetAtOnce (mark : PlanMark) (records : List PlanRecord)
    (later earlier : List Called) : Type 0 where
  pub taken : (path : List ℕ) (before after : Owner) (modes : Modes)
      → is_lawful mark records (later ++ Gave path before after (Some modes) ∷ earlier) ≡ true
      → modes.before ≢ modes.after → IsSetNext path after modes.before later
  pub lost : (plan : PlanMark) (path : List ℕ) (owner : Owner) (mode : ℕ)
      → is_lawful mark records (later ++ LostMode plan path owner (Some mode) ∷ earlier) ≡ true
      → IsSetNext path owner mode later
  pub no_other : (path : List ℕ) (owner : Owner) (mode : ℕ) (done : Bool)
      → is_lawful mark records (later ++ SetMode path owner mode done ∷ earlier) ≡ true
      → Last (TookMode path owner mode) earlier

-- ---- the mark

-- the call changes nothing of the file at this path
abbrev pub LeavesFile : List ℕ → Called → Type 0
LeavesFile path (Gave q before after modes) = q ≢ path
LeavesFile path (SetMode q owner mode done) = q ≢ path
LeavesFile path _ = ⊤

-- it leaves nothing to be synced
abbrev pub LeavesSynced : Called → Type 0
LeavesSynced (Gave path before after modes) = ⊥
LeavesSynced (SetMode path owner mode done) = ⊥
LeavesSynced (Kept path owner done) = ⊥
LeavesSynced _ = ⊤

-- it did not fail to set a mode
abbrev pub SetsItsMode : Called → Type 0
SetsItsMode (SetMode path owner mode done) = done ≡ true
SetsItsMode _ = ⊤

-- a mark that is put where all is done: it is that of the plan; each file was seen at its new
-- owner and synced after its last change, and all was synced after that; and no mode failed to be
-- set
pub record IsAtTheEnd (mark plan : PlanMark) (records : List PlanRecord) (earlier : List Called)
    : Type 0 where
  pub own : plan ≡ mark
  pub kept : All (λ r. WasMade (Kept r.path r.after true) (LeavesFile r.path) earlier) records
  pub settled : WasMade (Settled true) LeavesSynced earlier
  pub modes : All SetsItsMode earlier

-- and so is each mark
abbrev pub MarksComeLast : Type 0
MarksComeLast =
    (mark plan : PlanMark) (records : List PlanRecord) (later earlier : List Called) (done : Bool)
    → is_lawful mark records (later ++ PutMark plan done ∷ earlier) ≡ true
    → IsAtTheEnd mark plan records earlier

-- it does not put the mark
abbrev pub LeavesMark : Called → Type 0
LeavesMark (PutMark plan done) = ⊥
LeavesMark _ = ⊤

-- a mark that was kept was synced or met, and not put since
abbrev pub KeptMarksAreSynced : Type 0
KeptMarksAreSynced =
    (calls : List Called) → is_mark_kept calls ≡ true
    → WasMade (KeptMark true) LeavesMark calls
    ⊎ ((plan : PlanMark) × WasMade (MetMark plan true) LeavesMark calls)

-- ---- modes that are written down

-- the modes that an earlier run of this plan wrote down were read, with word of whether the mark
-- was there
abbrev pub WereRead : PlanMark → List Called → Type 0
WereRead mark calls =
    (since first : List Called) × (set begun : Bool)
    × (calls ≡ since ++ ReadModes mark set (Some begun) ∷ first)
    × (set ≡ is_marked_for mark (replay first).mark)

-- no file was given an owner by it
abbrev pub GivesNone : Called → Type 0
GivesNone (Gave path before after modes) = ⊥
GivesNone _ = ⊤

-- modes that are asked for, or written down, for this plan: those of an earlier run of it were
-- read before, and no file was given an owner
pub record IsOfThePlan (mark plan : PlanMark) (earlier : List Called) : Type 0 where
  pub own : plan ≡ mark
  pub read : WereRead mark earlier
  pub unchanged : All GivesNone earlier

-- a file whose mode was set was synced after that
abbrev pub IsSyncedSince : PlanRecord → List Called → Type 0
IsSyncedSince r calls =
    (since first : List Called) (owner : Owner) (mode : ℕ) (done : Bool)
    → calls ≡ since ++ SetMode r.path owner mode done ∷ first
    → (at : Owner) × Contains since (Kept r.path at true)

-- modes may be written down in place of those that were read: the names of each file were seen to
-- be all in the plan, each file whose mode was set was synced after that, and then all was
pub record MayReplaceModes (records : List PlanRecord) (earlier : List Called) : Type 0 where
  pub checked : All (λ r. Contains earlier (CheckedLinks r.path true)) records
  pub synced : All (λ r. IsSyncedSince r earlier) records
  pub settled : WasMade (Settled true) LeavesSynced earlier

-- no modes are asked for or written down but for this plan, and so
pub record NotesAreOfThePlan (mark plan : PlanMark) (records : List PlanRecord)
    (later earlier : List Called) : Type 0 where
  pub asked : (path : List ℕ) (owner : Owner) (mode : Option ℕ)
      → is_lawful mark records (later ++ LostMode plan path owner mode ∷ earlier) ≡ true
      → IsOfThePlan mark plan earlier
  pub written : (done : Bool)
      → is_lawful mark records (later ++ PutModes plan done ∷ earlier) ≡ true
      → IsOfThePlan mark plan earlier × MayReplaceModes records earlier
