-- What may be asked of a disk for a plan. The calls stand with the newest first.
-- Source: this project's own rule; chown(2) for modes, which a change of the owner may clear.
use Rattle.std.specs.Prelude.{ℕ, ◌==◌, Bool, true, false, ◌&&◌, ◌||◌, List, [], ◌∷◌, Option, None}
use Rattle.std.specs.Prelude.{Some, is_none, is_some, not, if◌then◌else◌}
use Rattle.std.specs.Bool.{beq}
use Rattle.std.specs.List.{list_any, list_all}
use Rattle.std.specs.Str.{bytes_eq}
use Rattle.reown_plan.specs.declared.mark.PlanMark.{PlanMark}
use Rattle.reown_plan.specs.declared.plan.Owner.{Owner}
use Rattle.reown_plan.specs.Mark.{mark_eq, is_marked_for}
use Rattle.reown_plan.specs.Owners.{owner_eq}
use Rattle.reown_plan.specs.PlanData.{PlanRecord}
use Rattle.reown_files.specs.declared.answers.Modes.{Modes}
use Rattle.reown_files.specs.Calls.{Called, Gave, SetMode, Kept, Settled, PutMark, LostMode}
use Rattle.reown_files.specs.Calls.{PutModes, CheckedLinks, Met, MetMark, KeptMark, ReadModes}
use Rattle.reown_files.specs.Replay.{replay}

-- ---- owners

-- the change is that of the record
abbrev pub is_of : List ℕ → Owner → Owner → PlanRecord → Bool
is_of path before after r =
    bytes_eq path r.path && (owner_eq before r.before && owner_eq after r.after)

-- it is that of one of the records
abbrev pub is_planned : List PlanRecord → List ℕ → Owner → Owner → Bool
is_planned records path before after = list_any (is_of path before after) records

-- no file is given an owner but as a record has it
abbrev pub gives_by_plan : List PlanRecord → List Called → Bool
gives_by_plan records [] = true
gives_by_plan records (Gave path before after modes ∷ calls) =
    is_planned records path before after && gives_by_plan records calls
gives_by_plan records (_ ∷ calls) = gives_by_plan records calls

-- ---- modes

-- the mode of a file was set to this, where the file had this owner
pub record ModeSet : Type 0 where
  pub path : List ℕ
  pub owner : Owner
  pub mode : ℕ

-- it is this mode, of this file at this owner
abbrev pub is_set_to : List ℕ → Owner → ℕ → ModeSet → Bool
is_set_to path owner mode set =
    bytes_eq set.path path && (owner_eq set.owner owner && (set.mode == mode))

-- a file that was given this owner has the mode that it had: it kept that, or that was set right
-- after it
abbrev pub leaves_mode : List ℕ → Owner → Option Modes → Option ModeSet → Bool
leaves_mode path after None None = true
leaves_mode path after None (Some set) = false
leaves_mode path after (Some modes) None = modes.before == modes.after
leaves_mode path after (Some modes) (Some set) = is_set_to path after modes.before set

-- a file whose mode an earlier run had lost has the mode that was written down: that was set right
-- after the answer
abbrev pub sets_back : List ℕ → Owner → Option ℕ → Option ModeSet → Bool
sets_back path owner None None = true
sets_back path owner None (Some set) = false
sets_back path owner (Some mode) None = false
sets_back path owner (Some mode) (Some set) = is_set_to path owner mode set

-- where this mode was set right after the calls
abbrev pub modes_stay_before : Option ModeSet → List Called → Bool
modes_stay_before set [] = is_none set
modes_stay_before set (Gave path before after modes ∷ calls) =
    leaves_mode path after modes set && modes_stay_before None calls
modes_stay_before set (SetMode path owner mode done ∷ calls) =
    is_none set
    && modes_stay_before (Some (record { path = path; owner = owner; mode = mode })) calls
modes_stay_before set (LostMode plan path owner mode ∷ calls) =
    sets_back path owner mode set && modes_stay_before None calls
modes_stay_before set (_ ∷ calls) = is_none set && modes_stay_before None calls

-- no file is left with another mode than it had, and no mode is set but right after the change
-- that cleared it, or after the answer that an earlier run had lost it
abbrev pub modes_stay : List Called → Bool
modes_stay calls = modes_stay_before None calls

-- no mode failed to be set
abbrev pub no_mode_failed : List Called → Bool
no_mode_failed [] = true
no_mode_failed (SetMode path owner mode done ∷ calls) = done && no_mode_failed calls
no_mode_failed (_ ∷ calls) = no_mode_failed calls

-- ---- the mark

-- the record's file was seen at its new owner and synced, and not changed since
abbrev pub was_kept : List Called → PlanRecord → Bool
was_kept [] r = false
was_kept (Gave path before after modes ∷ calls) r =
    if bytes_eq path r.path then false else was_kept calls r
was_kept (SetMode path owner mode done ∷ calls) r =
    if bytes_eq path r.path then false else was_kept calls r
was_kept (Kept path owner done ∷ calls) r =
    (done && (bytes_eq path r.path && owner_eq owner r.after)) || was_kept calls r
was_kept (_ ∷ calls) r = was_kept calls r

abbrev pub all_kept : List PlanRecord → List Called → Bool
all_kept records calls = list_all (was_kept calls) records

-- a sync of all was made, after each change and each file that was kept
abbrev pub is_settled : List Called → Bool
is_settled [] = false
is_settled (Gave path before after modes ∷ calls) = false
is_settled (SetMode path owner mode done ∷ calls) = false
is_settled (Kept path owner done ∷ calls) = false
is_settled (Settled done ∷ calls) = done || is_settled calls
is_settled (_ ∷ calls) = is_settled calls

-- each file was seen at its new owner and has reached its device, and was not changed since
abbrev pub is_synced : List PlanRecord → List Called → Bool
is_synced records calls = all_kept records calls && is_settled calls

-- no mark is put but this one, and that only where all files are synced and no mode failed to be
-- set
abbrev pub marks_last : PlanMark → List PlanRecord → List Called → Bool
marks_last mark records [] = true
marks_last mark records (PutMark plan done ∷ calls) =
    mark_eq plan mark
    && (is_synced records calls && (no_mode_failed calls && marks_last mark records calls))
marks_last mark records (_ ∷ calls) = marks_last mark records calls

-- the mark has reached its device: it was met, which syncs it, or it was synced after the last
-- time that it was put
abbrev pub is_mark_kept : List Called → Bool
is_mark_kept [] = false
is_mark_kept (MetMark plan set ∷ calls) = set
is_mark_kept (PutMark plan done ∷ calls) = false
is_mark_kept (KeptMark done ∷ calls) = done || is_mark_kept calls
is_mark_kept (_ ∷ calls) = is_mark_kept calls

-- ---- before the first change

-- the file is the record's, at its new owner
abbrev pub is_given : List ℕ → Owner → PlanRecord → Bool
is_given path owner r = bytes_eq path r.path && owner_eq owner r.after

-- a file was met by this path, by which one of its names is counted
abbrev pub is_met : List ℕ → List Called → Bool
is_met path [] = false
is_met path (Met q after found ∷ calls) = bytes_eq q path || is_met path calls
is_met path (_ ∷ calls) = is_met path calls

-- the record's file was met as one that is to have its new owner, by which its mode is noted where
-- it has another
abbrev pub was_met : List Called → PlanRecord → Bool
was_met [] r = false
was_met (Met path after found ∷ calls) r = is_given path after r || was_met calls r
was_met (_ ∷ calls) r = was_met calls r

abbrev pub all_met : List PlanRecord → List Called → Bool
all_met records calls = list_all (was_met calls) records

-- the names of the record's file were seen to be all in the plan
abbrev pub was_checked : List Called → PlanRecord → Bool
was_checked [] r = false
was_checked (CheckedLinks path done ∷ calls) r =
    (done && bytes_eq path r.path) || was_checked calls r
was_checked (_ ∷ calls) r = was_checked calls r

abbrev pub all_checked : List PlanRecord → List Called → Bool
all_checked records calls = list_all (was_checked calls) records

-- the modes that an earlier run of the plan with this mark wrote down were read, with word of
-- whether that mark was there
abbrev pub were_read : PlanMark → List Called → Bool
were_read mark [] = false
were_read mark (ReadModes plan set begun ∷ calls) =
    (is_some begun && (mark_eq plan mark && beq set (is_marked_for mark (replay calls).mark)))
    || were_read mark calls
were_read mark (_ ∷ calls) = were_read mark calls

-- no file was given an owner as yet
abbrev pub is_unchanged : List Called → Bool
is_unchanged [] = true
is_unchanged (Gave path before after modes ∷ calls) = false
is_unchanged (_ ∷ calls) = is_unchanged calls

-- the mode was asked for that an earlier run had lost of the record's file
abbrev pub was_asked : List Called → PlanRecord → Bool
was_asked [] r = false
was_asked (LostMode plan path owner mode ∷ calls) r = is_given path owner r || was_asked calls r
was_asked (_ ∷ calls) r = was_asked calls r

abbrev pub all_asked : List PlanRecord → List Called → Bool
all_asked records calls = list_all (was_asked calls) records

-- no mode was set of the record's file, or the file was synced since
abbrev pub is_mode_kept : List Called → PlanRecord → Bool
is_mode_kept [] r = true
is_mode_kept (SetMode path owner mode done ∷ calls) r =
    if bytes_eq path r.path then false else is_mode_kept calls r
is_mode_kept (Kept path owner done ∷ calls) r =
    (done && bytes_eq path r.path) || is_mode_kept calls r
is_mode_kept (_ ∷ calls) r = is_mode_kept calls r

abbrev pub all_modes_kept : List PlanRecord → List Called → Bool
all_modes_kept records calls = list_all (is_mode_kept calls) records

-- the modes that this run may lose were written down, after such a question for each file
abbrev pub is_begun : List PlanRecord → List Called → Bool
is_begun records [] = false
is_begun records (PutModes plan done ∷ calls) =
    (done && all_asked records calls) || is_begun records calls
is_begun records (_ ∷ calls) = is_begun records calls

-- no file is given an owner before that; modes are asked for and written down for this plan alone,
-- its files at their new owners, after a reading of those of an earlier run, and before any file
-- is given one; only files of the plan are met, each once; the names of a file are looked for only
-- where each file was met; and modes are written down, in place of those that were read, only where
-- the names of each file were seen to be all in the plan and what was set back is synced
abbrev pub begins_first : PlanMark → List PlanRecord → List Called → Bool
begins_first mark records [] = true
begins_first mark records (Gave path before after modes ∷ calls) =
    is_begun records calls && begins_first mark records calls
begins_first mark records (LostMode plan path owner mode ∷ calls) =
    mark_eq plan mark
    && (list_any (is_given path owner) records
    && (were_read mark calls && (is_unchanged calls && begins_first mark records calls)))
begins_first mark records (Met path after found ∷ calls) =
    list_any (is_given path after) records
    && (not (is_met path calls) && begins_first mark records calls)
begins_first mark records (CheckedLinks path done ∷ calls) =
    all_met records calls && begins_first mark records calls
begins_first mark records (PutModes plan done ∷ calls) =
    mark_eq plan mark
    && (all_checked records calls
    && (were_read mark calls
    && (is_unchanged calls
    && (all_modes_kept records calls
    && (is_settled calls && begins_first mark records calls)))))
begins_first mark records (_ ∷ calls) = begins_first mark records calls

-- ---- all of it

-- nothing was asked for but what the plan with this mark and these records has, and that in its
-- order
abbrev pub is_lawful : PlanMark → List PlanRecord → List Called → Bool
is_lawful mark records calls =
    gives_by_plan records calls
    && (modes_stay calls && (marks_last mark records calls && begins_first mark records calls))
