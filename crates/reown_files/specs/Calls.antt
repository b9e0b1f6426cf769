-- What was asked of a disk.
-- Source: this project's own rule.
use Rattle.std.specs.Prelude.{ℕ, Bool, List, Option}
use Rattle.reown_plan.specs.declared.mark.PlanMark.{PlanMark}
use Rattle.reown_plan.specs.declared.plan.Owner.{Owner}
use Rattle.reown_files.specs.declared.answers.Modes.{Modes}
use Rattle.reown_files.specs.declared.answers.Seen.{Seen}
use Rattle.reown_files.specs.declared.answers.Trouble.{Trouble}

-- each call with what it was given; what it answered, or whether it was done, comes last
pub data Called : Type 0 where
  -- this was seen of a file, if it is there
  Looked : (path : List ℕ) (seen : Option Seen) → Called
  -- a file that is to have this owner was met, with an owner or not there
  Met : (path : List ℕ) (after : Owner) (found : Option Owner) → Called
  -- the mark of a plan was met, there or not
  MetMark : (plan : PlanMark) (set : Bool) → Called
  -- a file was seen at this owner, or not there
  Saw : (path : List ℕ) (found : Option Owner) → Called
  -- the mark of a plan was seen to be there or not
  SawMark : (plan : PlanMark) (set : Bool) → Called
  -- a file could not be looked at or met, for this
  NotSeen : (path : List ℕ) (trouble : Trouble) → Called
  -- the mark of a plan could not be looked at or met, for this
  MarkNotSeen : (plan : PlanMark) (trouble : Trouble) → Called
  -- the names of a file were to be seen to be all in the plan
  CheckedLinks : (path : List ℕ) (done : Bool) → Called
  -- a file was to be given an owner in place of another, and had these modes before and after
  Gave : (path : List ℕ) (before after : Owner) (modes : Option Modes) → Called
  -- the mode of a file was to be set, where it had this owner
  SetMode : (path : List ℕ) (owner : Owner) (mode : ℕ) (done : Bool) → Called
  -- a file was to be seen at this owner and synced, by itself or with the sync of all
  Kept : (path : List ℕ) (owner : Owner) (done : Bool) → Called
  -- all was to be synced
  Settled : (done : Bool) → Called
  -- the mark of a plan was to be put
  PutMark : (plan : PlanMark) (done : Bool) → Called
  -- the mark was to be synced
  KeptMark : (done : Bool) → Called
  -- the modes that an earlier run of a plan wrote down were to be read, where its mark was there or
  -- not; and this is whether there are such, if that could be told
  ReadModes : (plan : PlanMark) (set : Bool) (begun : Option Bool) → Called
  -- the mode was asked for that was read of a plan for a file, which has this owner now and lacks
  -- bits of that mode
  LostMode : (plan : PlanMark) (path : List ℕ) (owner : Owner) (mode : Option ℕ) → Called
  -- the modes that this run may lose were to be written down for a plan
  PutModes : (plan : PlanMark) (done : Bool) → Called
