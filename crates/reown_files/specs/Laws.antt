-- Laws over the definitions of this crate.
-- Source: this project's own formats.
use Rattle.std.specs.Prelude.{◌≡◌, ◌≢◌, ◌⊎◌, ◌↔◌, ◌<◌, ◌^◌, ℕ, Bool, true, false, List, All}
use Rattle.std.specs.Prelude.{[], ◌∷◌, ◌++◌, Option, None, Some, Ok, Err, length, take}
use Rattle.std.specs.Prelude.{slice_index_or, if◌then◌else◌, not, ◌&&◌, Vec}
use Rattle.std.specs.declared.alloc.Global.{Global}
use Rattle.idtext.specs.Pieces.{lines}
use Rattle.reown_plan.specs.Mark.{mark_of, mark_eq}
use Rattle.reown_plan.specs.Owners.{owner_eq}
use Rattle.reown_plan.specs.PlanData.{PlanData, PlanRecord}
use Rattle.reown_plan.specs.declared.mark.PlanMark.{PlanMark}
use Rattle.reown_plan.specs.declared.plan.Owner.{Owner}
use Rattle.reown_plan.specs.Spelling.{spelling, IsHostName}
use Rattle.reown_files.specs.MarkText.{mark_text, mark_read, head_text, modes_text}
use Rattle.reown_files.specs.MarkText.{lines_in, has_ended, Entry, lines_text, lines_read}
use Rattle.reown_files.specs.MarkText.{modes_judged, entry, mode_in}
use Rattle.reown_files.specs.Actions.{Action, FileRead, TextPut, NameSynced, FileRemoved}
use Rattle.reown_files.specs.Actions.{IsMarkRead, IsMarkMet, modes_read, modes_put, new_beside}
use Rattle.reown_files.specs.Looks.{has_set_id}
use Rattle.reown_files.specs.RootData.{RootData, IsMet, ReadsMore, mode_noted}
use Rattle.reown_files.specs.Trees.{AreRead, mode_at}
use Rattle.reown_files.specs.Calls.{Called, MetMark, PutMark, ReadModes}
use Rattle.reown_files.specs.Lawful.{is_lawful, is_unchanged, is_begun}
use Rattle.reown_files.specs.Opening.{IsUnfit, MetFit}
use Rattle.reown_files.specs.Replay.{Held, replay}
use Rattle.reown_files.specs.Stages.{MayHave, stage_in}
use Rattle.reown_files.specs.declared.answers.Trouble.TheVariants.{NotModes, OtherPlan}
use Rattle.reown_files.specs.declared.answers.OpenFault.{OpenFault}
use Rattle.reown_files.specs.declared.answers.OpenFault.TheVariants.{Missing, Foreign, Unfinished}
use Rattle.reown_files.specs.declared.answers.OpenFault.TheVariants.{AlreadyChanged}
use Rattle.reown_files.specs.declared.walk.Found.{Found}
use Rattle.reown_files.specs.declared.stage.Stage.{Stage}
use Rattle.reown_files.specs.declared.stage.Stage.TheVariants.{NotBegun, Begun, Done}

-- a plan that can be marked as done: its host has a name, and the length of its text 64 bits
pub record IsMarkable (plan : PlanData) : Type 0 where
  pub host : IsHostName plan.host
  pub short : length (spelling plan) < 2 ^ 64

-- the mark of a plan is read as the mark of that plan, and as that of none with another mark
abbrev pub MarksAreReadBack : Type 0
MarksAreReadBack =
    (plan other : PlanData) → IsMarkable plan → IsMarkable other
    → mark_read (mark_of other) (mark_text (mark_of plan))
    ≡ Some (mark_eq (mark_of plan) (mark_of other))

-- the lines of files that were written down for a plan are found again for that plan, and none for
-- one with another mark
abbrev pub ModesAreOfOnePlan : Type 0
ModesAreOfOnePlan =
    (plan other : PlanData) (entries : List Entry) → IsMarkable plan → IsMarkable other
    → lines_in (head_text (mark_of other)) (modes_text (mark_of plan) (lines_text entries))
    ≡ Some (if mark_eq (mark_of plan) (mark_of other) then Some (lines_text entries) else None)

-- the mark of a plan ends that plan's modes, and those of none with another mark
abbrev pub MarksEndOnePlan : Type 0
MarksEndOnePlan =
    (plan other : PlanData) (entries : List Entry) → IsMarkable plan → IsMarkable other
    → has_ended (mark_text (mark_of other)) (modes_text (mark_of plan) (lines_text entries))
    ≡ mark_eq (mark_of plan) (mark_of other)

-- modes that were written down are read back, each with its file and in their order
abbrev pub ModesAreReadBack : Type 0
ModesAreReadBack =
    (entries : List Entry) → All (λ e. All (λ b. b < 256) e.0 × (e.1 < 4096)) entries
    → lines_read (lines (lines_text entries)) ≡ Some entries

-- what a run goes by of a file of modes, beside whatever mark: those of its own plan; none of
-- another plan's where the mark is that plan's, which has ended then; and another plan's with a
-- third plan's mark, or with none, are refused
pub record ModesAreJudged : Type 0 where
  pub own : (plan : PlanData) (entries : List Entry) (mark : List ℕ) → IsMarkable plan
      → modes_judged
      (head_text (mark_of plan)) mark (modes_text (mark_of plan) (lines_text entries))
      ≡ Ok (Some (lines_text entries))
  pub ended : (plan other : PlanData) (entries : List Entry)
      → IsMarkable plan → IsMarkable other → mark_of other ≢ mark_of plan
      → modes_judged
      (head_text (mark_of plan)) (mark_text (mark_of other))
      (modes_text (mark_of other) (lines_text entries))
      ≡ Ok None
  pub begun : (plan other third : PlanData) (entries : List Entry)
      → IsMarkable plan → IsMarkable other → IsMarkable third
      → mark_of other ≢ mark_of plan → mark_of other ≢ mark_of third
      → modes_judged
      (head_text (mark_of plan)) (mark_text (mark_of third))
      (modes_text (mark_of other) (lines_text entries))
      ≡ Err OtherPlan
  pub no_mark : (plan other : PlanData) (entries : List Entry)
      → IsMarkable plan → IsMarkable other → mark_of other ≢ mark_of plan
      → modes_judged
      (head_text (mark_of plan)) [] (modes_text (mark_of other) (lines_text entries))
      ≡ Err OtherPlan

-- the modes of whatever plan are refused where any bytes at their end are missing
abbrev pub CutModesAreRefused : Type 0
CutModesAreRefused =
    (plan other : PlanData) (entries : List Entry) (mark : List ℕ) (n : ℕ) → IsMarkable other
    → n < length (modes_text (mark_of other) (lines_text entries))
    → modes_judged
    (head_text (mark_of plan)) mark (take n (modes_text (mark_of other) (lines_text entries)))
    ≡ Err NotModes

-- ---- files that were put

-- where the file of the mark has the text that was put for a plan, the mark is seen as that plan's,
-- and as that of none with another mark; and where the file is not there, none is seen
pub record MarksPutAreSeen : Type 0 where
  pub put : (plan other : PlanData) (mark : List ℕ) (set : Bool) (old : List Action)
      → IsMarkable plan → IsMarkable other
      → IsMarkRead mark (mark_of other) set old
      (FileRead mark (Some (mark_text (mark_of plan))) ∷ old)
      → set ≡ mark_eq (mark_of plan) (mark_of other)
  pub none : (plan : PlanMark) (mark : List ℕ) (set : Bool) (old : List Action)
      → IsMarkRead mark plan set old (FileRead mark None ∷ old) → set ≡ false

-- a mark is met as it is seen, and synced after that where it is there
abbrev pub MarksAreMetAsSeen : Type 0
MarksAreMetAsSeen =
    (mark : List ℕ) (plan : PlanMark) (set : Bool) (old new : List Action)
    → IsMarkMet mark plan set old new
    → (seen : List Action) × IsMarkRead mark plan set old seen
    × (new ≡ (if set then NameSynced mark ∷ seen else seen))

-- where the file of the modes has the text that was put for a plan, that plan counts as begun,
-- whatever the mark is, and each file has the mode that was written down last for it
abbrev pub ModesPutAreRead : Type 0
ModesPutAreRead =
    (plan : PlanData) (entries : List Entry) (mark modes : List ℕ) (beside : Option (List ℕ))
    (begun : Bool) (actions : List Action) (read now : Option PlanMark)
    (tree noted : List (Vec ℕ Global × ℕ)) → IsMarkable plan
    → All (λ e. All (λ b. b < 256) e.0 × (e.1 < 4096)) entries
    → AreRead mark modes (mark_of plan) false begun actions
    (FileRead mark beside
    ∷ FileRead modes (Some (modes_text (mark_of plan) (lines_text entries))) ∷ actions)
    read tree now noted
    → (begun ≡ true) × (now ≡ Some (mark_of plan))
    × ((path : List ℕ) → mode_at noted path ≡ mode_in entries path)

-- modes were read, and the two files had these texts, or are not there
abbrev pub AreReadOf
    : PlanMark → Option (List ℕ) → Option (List ℕ) → Bool → Bool → Option PlanMark
    → List (Vec ℕ Global × ℕ) → Option PlanMark → List (Vec ℕ Global × ℕ) → Type 0
AreReadOf plan beside text set begun old tree new noted =
    (mark modes : List ℕ) × (actions : List Action)
    × AreRead mark modes plan set begun actions
    (modes_read mark modes beside text actions) old tree new noted

-- the text of the modes that a plan's run has put
abbrev pub text_put : PlanData → List Entry → Option (List ℕ)
text_put plan entries = Some (modes_text (mark_of plan) (lines_text entries))

-- Where the file of the modes is not there, no run of the plan is told, and no modes are taken. So
-- it is where another plan has put that file, and its mark tells that it has ended; where there is
-- no mark or a third plan's, nothing is answered. And no modes are taken where the mark of the plan
-- is there: those that were taken before stay.
pub record TakesNone
    (begun : Bool) (old new : Option PlanMark) (tree noted : List (Vec ℕ Global × ℕ))
    : Type 0 where
  pub none : (plan : PlanMark) (beside : Option (List ℕ)) (set : Bool)
      → AreReadOf plan beside None set begun old tree new noted
      → (begun ≡ false) × (new ≡ old) × (noted ≡ tree)
  pub others : (plan other : PlanData) (entries : List Entry)
      → (beside : Option (List ℕ)) (set : Bool)
      → IsMarkable plan → IsMarkable other → mark_of other ≢ mark_of plan
      → AreReadOf (mark_of plan) beside (text_put other entries) set begun old tree new noted
      → (begun ≡ false) × (new ≡ old) × (noted ≡ tree)
  pub ended : (plan other : PlanData) (entries : List Entry)
      → IsMarkable plan → IsMarkable other → mark_of other ≢ mark_of plan
      → AreReadOf (mark_of plan) (Some (mark_text (mark_of other))) (text_put other entries)
      false false old tree old tree
  pub unended : (plan other third : PlanData) (entries : List Entry) (set : Bool)
      → IsMarkable plan → IsMarkable other → IsMarkable third
      → mark_of other ≢ mark_of plan → mark_of other ≢ mark_of third
      → ¬ AreReadOf (mark_of plan) (Some (mark_text (mark_of third))) (text_put other entries)
      set begun old tree new noted
  pub unmarked : (plan other : PlanData) (entries : List Entry) (set : Bool)
      → IsMarkable plan → IsMarkable other → mark_of other ≢ mark_of plan
      → ¬ AreReadOf (mark_of plan) None (text_put other entries) set begun old tree new noted
  pub done : (plan : PlanMark) (beside text : Option (List ℕ))
      → AreReadOf plan beside text true begun old tree new noted
      → (new ≡ old) × (noted ≡ tree)

abbrev pub ModesOfNoneAreLeft : Type 0
ModesOfNoneAreLeft =
    (begun : Bool) (old new : Option PlanMark) (tree noted : List (Vec ℕ Global × ℕ))
    → TakesNone begun old new tree noted

-- the modes that were taken are told of the plan that they were read for, and of no other
pub record ModesAreToldOfTheirPlan (plan : PlanMark) (path : List ℕ) (root : RootData)
    : Type 0 where
  pub own : root.read ≡ Some plan → mode_noted plan path root ≡ mode_at root.modes path
  pub other : root.read ≢ Some plan → mode_noted plan path root ≡ None

-- where the mark of the plan was there when the modes were read, the file of the modes is removed
-- in place of being put; and else it is put
abbrev pub ModesGoByTheMark : Type 0
ModesGoByTheMark =
    (set : Bool) (text : List ℕ) (actions : List Action) (old read : RootData)
    → ReadsMore set old read
    → modes_put read.modes_path read.was_done text actions
    ≡ (if set then FileRemoved old.modes_path ∷ actions
    else NameSynced old.modes_path
    ∷ TextPut (new_beside old.modes_path) old.modes_path text ∷ actions)

-- what is written down of a file that was met: its mode, where it is at another owner than its new
-- one and has a set-ID bit
abbrev pub entries_met : List ℕ → Owner → Found → List Entry
entries_met path after found =
    if not (owner_eq found.owner after) && has_set_id found then entry path found.mode ∷ [] else []

-- the lines that are written down are those of the files that were met, in their order: with each
-- one more
abbrev pub LinesAreOfMetFiles : Type 0
LinesAreOfMetFiles =
    (path : List ℕ) (after owner : Owner) (old new : RootData) (entries : List Entry)
    → old.lines ≡ lines_text entries → IsMet path after owner old new
    → (found : Found) × (found.owner ≡ owner)
    × (new.lines ≡ lines_text (entries ++ entries_met path after found))

-- ---- how far a plan is

-- a plan is done exactly where its mark is there. Where that is not, it is begun exactly where
-- modes are there that a run of it wrote down, or somebody knows of a run; and else it is not
pub record StagesAreTold : Type 0 where
  pub done : (known : Bool) (plan : PlanMark) (held : Held)
      → (stage_in known plan held ≡ Done) ↔ (held.mark ≡ Some plan)
  pub begun : (known : Bool) (plan : PlanMark) (held : Held) → held.mark ≢ Some plan
      → (stage_in known plan held ≡ Begun) ↔ ((held.begun ≡ Some plan) ⊎ (known ≡ true))
  pub not_begun : (known : Bool) (plan : PlanMark) (held : Held) → held.mark ≢ Some plan
      → (stage_in known plan held ≡ NotBegun) ↔ ((held.begun ≢ Some plan) × (known ≡ false))

-- a run of this plan is told by its mark, which was met or put, or by modes that were read
abbrev pub TellsOfRun : PlanMark → Called → Type 0
TellsOfRun plan (MetMark other set) = (other ≡ plan) × (set ≡ true)
TellsOfRun plan (PutMark other done) = (other ≡ plan) × (done ≡ true)
TellsOfRun plan (ReadModes other set begun) = (other ≡ plan) × (begun ≡ Some true)
TellsOfRun plan _ = ⊥

-- where no call tells of a run, and nobody knows of one, only files at their old owners are fit
abbrev pub FirstRunsBeginAtOldOwners : Type 0
FirstRunsBeginAtOldOwners =
    (plan : PlanMark) (records : List PlanRecord) (calls : List Called)
    → All (λ call. ¬ TellsOfRun plan call) calls
    → (fit : MetFit (stage_in false plan (replay calls)) records calls)
    → (k : ℕ) (d : PlanRecord) (o : Owner) → k < length records
    → slice_index_or fit.owners k o ≡ (slice_index_or records k d).before

-- the record of the plan that takes this one back
abbrev pub taken_back : PlanRecord → PlanRecord
taken_back r = record r { before = r.after; after = r.before }

-- before the first run a file may have its old owner; while the plan is begun, what it may have
-- before the first run or once the plan is done; and once it is done, what the plan that takes it
-- back begins with
pub record OwnersGoByStage : Type 0 where
  pub first : (r : PlanRecord) (owner : Owner) → MayHave NotBegun r owner ↔ (owner ≡ r.before)
  pub between : (r : PlanRecord) (owner : Owner)
      → MayHave Begun r owner ↔ (MayHave NotBegun r owner ⊎ MayHave Done r owner)
  pub back : (r : PlanRecord) (owner : Owner)
      → MayHave Done r owner ↔ MayHave NotBegun (taken_back r) owner

-- a file is there at an owner that it may have at this stage
abbrev pub IsFit : Stage → PlanRecord → Option Owner → Type 0
IsFit stage r found = (owner : Owner) × (found ≡ Some owner) × MayHave stage r owner

-- there is one fault with what was met of a file
pub record HasOneFault (stage : Stage) (i : ℕ) (r : PlanRecord) (found : Option Owner)
    : Type 0 where
  pub fault : OpenFault
  pub unfit : IsUnfit stage i r found fault
  pub no_other : (other : OpenFault) → IsUnfit stage i r found other → other ≡ fault

-- whatever is met of a file, it is fit, or there is one fault with it; and never both
pub record FilesAreJudged : Type 0 where
  pub either : (stage : Stage) (i : ℕ) (r : PlanRecord) (found : Option Owner)
      → IsFit stage r found ⊎ HasOneFault stage i r found
  pub never_both : (stage : Stage) (i : ℕ) (r : PlanRecord) (found : Option Owner)
      → IsFit stage r found → (fault : OpenFault) → ¬ IsUnfit stage i r found fault

-- the fault with a file is named by what was met, and told of its record's place: it is not there;
-- it has an owner that is neither of the two; the plan is done, and it has its old one; or no run
-- was begun, and it has its new one
pub record FaultsAreNamed (i : ℕ) (r : PlanRecord) : Type 0 where
  pub missing : (stage : Stage) → IsUnfit stage i r None (Missing i)
  pub foreign : (stage : Stage) (owner : Owner) → owner ≢ r.before → owner ≢ r.after
      → IsUnfit stage i r (Some owner) (Foreign i owner)
  pub unfinished : r.before ≢ r.after → IsUnfit Done i r (Some r.before) (Unfinished i)
  pub changed : r.after ≢ r.before → IsUnfit NotBegun i r (Some r.after) (AlreadyChanged i)

-- where calls are lawful and a file was given an owner, modes were written down before that, so
-- that the plan counts as begun
abbrev pub ChangedPlansAreBegun : Type 0
ChangedPlansAreBegun =
    (mark : PlanMark) (records : List PlanRecord) (calls : List Called)
    → is_lawful mark records calls ≡ true → is_unchanged calls ≡ false
    → is_begun records calls ≡ true
