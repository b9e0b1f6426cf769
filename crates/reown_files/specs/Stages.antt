-- How far a plan is carried out, and which owners its files may have there.
-- Source: this project's own rule. A plan may exchange two owners, so that a file at its new owner
-- says nothing by itself: before the first run it is somebody else's.
use Rattle.std.specs.Prelude.{◌≡◌, ◌⊎◌, ◌<◌, ◌||◌, ℕ, Bool, true, false, List, length}
use Rattle.std.specs.Prelude.{slice_index_or}
use Rattle.reown_plan.specs.declared.mark.PlanMark.{PlanMark}
use Rattle.reown_plan.specs.declared.plan.Owner.{Owner}
use Rattle.reown_plan.specs.Mark.{is_marked_for}
use Rattle.reown_plan.specs.PlanData.{PlanRecord}
use Rattle.reown_files.specs.declared.stage.Stage.{Stage}
use Rattle.reown_files.specs.declared.stage.Stage.TheVariants.{NotBegun, Begun, Done}
use Rattle.reown_files.specs.Replay.{Held}

-- whether the mark of the plan is there, and whether it is known to have been begun
abbrev pub stage_of : Bool → Bool → Stage
stage_of true begun = Done
stage_of false true = Begun
stage_of false false = NotBegun

-- the mark and the modes that a run wrote down tell it; that the plan was begun may be known
-- without them
abbrev pub stage_in : Bool → PlanMark → Held → Stage
stage_in known plan held =
    stage_of (is_marked_for plan held.mark) (is_marked_for plan held.begun || known)

-- the file of a record may have this owner: the old one before the first run, the new one once the
-- plan is done, and either in between
abbrev pub MayHave : Stage → PlanRecord → Owner → Type 0
MayHave NotBegun r owner = owner ≡ r.before
MayHave Begun r owner = (owner ≡ r.before) ⊎ (owner ≡ r.after)
MayHave Done r owner = owner ≡ r.after

-- and so each of the files
abbrev pub AreAllowed : Stage → List PlanRecord → List Owner → Type 0
AreAllowed stage records owners =
    (k : ℕ) (d : PlanRecord) (o : Owner) → k < length records
    → MayHave stage (slice_index_or records k d) (slice_index_or owners k o)
