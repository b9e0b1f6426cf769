-- The files below a directory, as their user sees them.
-- Source: this project's own rule.
use Rattle.std.specs.Prelude.{◌≡◌, ℕ, Bool, List, ◌∷◌, ◌++◌}
use Rattle.std.specs.Prelude.{Option, None, Some, Vec, true, false, codes, nat_eq}
use Rattle.std.specs.List.{starts_with}
use Rattle.std.specs.declared.alloc.Global.{Global}
use Rattle.reown_plan.specs.declared.mark.PlanMark.{PlanMark}
use Rattle.reown_plan.specs.declared.plan.Owner.{Owner}
use Rattle.reown_files.specs.declared.answers.Seen.{Seen}
use Rattle.reown_files.specs.declared.walk.Found.{Found}
use Rattle.reown_files.specs.Asked.{Asked, Told, met, line_of, HasOneOwner}
use Rattle.reown_files.specs.Calls.{Called}
use Rattle.reown_files.specs.Actions.{Action}
use Rattle.reown_files.specs.Looks.{seen_of}
use Rattle.reown_files.specs.OneFile.{HasLost}
use Rattle.reown_files.specs.Trees.{mode_noted_for}

-- whether one sync keeps all that was changed before; what the system was asked of the files; the
-- lines of those whose modes this run may lose; the plan that modes were read of, and these by the
-- paths of their files; where the files of the mark and of the modes stand; whether the mark of the
-- plan was there when its modes were read; whether this run has put the mark, and may have put the
-- modes; what was done to the mark, to the file of the modes and to the root; and the calls that
-- were made
pub record RootData : Type 0 where
  pub has_one_journal : Bool
  pub files : List Asked
  pub lines : List ℕ
  pub read : Option PlanMark
  pub modes : List (Vec ℕ Global × ℕ)
  pub mark_path : List ℕ
  pub modes_path : List ℕ
  pub was_done : Bool
  pub is_put : Bool
  pub has_put_modes : Bool
  pub actions : List Action
  pub calls : List Called

-- where the file of the modes stands that is beside the mark at this path
abbrev pub modes_beside : List ℕ → List ℕ
modes_beside mark = mark ++ codes ".modes"

-- a path begins at the root of all, and not at the working directory
abbrev pub is_absolute : List ℕ → Bool
is_absolute path = starts_with nat_eq path (codes "/")

-- a path that leads from anywhere to where this one leads: the same, or it with a way to a
-- directory before it
abbrev pub IsPathFrom : Bool → List ℕ → List ℕ → Type 0
IsPathFrom true path whole = whole ≡ path
IsPathFrom false path whole = (way : List ℕ) × (whole ≡ way ++ 47 ∷ path)

-- a look, of which this is told
abbrev pub IsSeen : List ℕ → Seen → RootData → RootData → Type 0
IsSeen path seen old new =
    (found : Found) × (seen ≡ seen_of found) × (new.files ≡ Told path found ∷ old.files)

-- a look at a file that has this owner
abbrev pub IsSeenAt : List ℕ → Owner → RootData → RootData → Type 0
IsSeenAt path owner old new =
    (found : Found) × (owner ≡ found.owner) × (new.files ≡ Told path found ∷ old.files)

-- a file with this owner was met, which is to have that one by each of its names
abbrev pub IsMet : List ℕ → Owner → Owner → RootData → RootData → Type 0
IsMet path after owner old new =
    (found : Found) × (owner ≡ found.owner) × HasOneOwner after found old.files
    × (new.files ≡ met old.has_one_journal path after found old.files)
    × (new.lines ≡ old.lines ++ line_of path after found)

-- a look at a file that has this owner and has lost bits of this mode
abbrev pub HasLostAt : List ℕ → Owner → ℕ → RootData → RootData → Type 0
HasLostAt path owner mode old new =
    (found : Found) × (found.owner ≡ owner) × HasLost found mode
    × (new.files ≡ Told path found ∷ old.files)

-- what is told as lost of a file that was found so, of which this mode was read: the mode, where
-- the file has this owner and has lost bits of it, and else none
abbrev pub IsLostOf : Owner → Found → ℕ → Option ℕ → Type 0
IsLostOf owner found mode (Some lost) =
    (lost ≡ mode) × (found.owner ≡ owner) × HasLost found mode
IsLostOf owner found mode None = ¬ ((found.owner ≡ owner) × HasLost found mode)

-- what is told as lost of a file, of which this mode was read or none: it is looked at only where
-- one was
abbrev pub TellsLost : List ℕ → Owner → Option ℕ → Option ℕ → List Asked → List Asked → Type 0
TellsLost path owner None lost old new = (lost ≡ None) × (new ≡ old)
TellsLost path owner (Some mode) lost old new =
    (found : Found) × IsLostOf owner found mode lost × (new ≡ Told path found ∷ old)

-- the mode that was read of a plan for a file
abbrev pub mode_noted : PlanMark → List ℕ → RootData → Option ℕ
mode_noted plan path root = mode_noted_for root.read root.modes plan path

-- ---- what a call changes

-- nothing is new but what was asked of files, and the calls that were made
abbrev pub AsksMore : RootData → RootData → Type 0
AsksMore old new = new ≡ record old { files = new.files; calls = new.calls }

-- nothing is new but what was asked of files, the lines of modes, and the calls that were made
abbrev pub MeetsMore : RootData → RootData → Type 0
MeetsMore old new = new ≡ record old { files = new.files; lines = new.lines; calls = new.calls }

-- nothing is new but what was done to the mark, to the file of the modes and to the root, and the
-- calls that were made
abbrev pub ActsMore : RootData → RootData → Type 0
ActsMore old new = new ≡ record old { actions = new.actions; calls = new.calls }

-- nothing is new but whether this run may have put the modes, and these
abbrev pub PutsModes : RootData → RootData → Type 0
PutsModes old new =
    new
    ≡ record old {
      has_put_modes = new.has_put_modes;
      actions = new.actions;
      calls = new.calls;
    }

-- nothing is new but the plan that modes were read of, these modes, whether the mark of the plan
-- was there then, what was done, and the calls that were made
abbrev pub ReadsMore : Bool → RootData → RootData → Type 0
ReadsMore set old new =
    new
    ≡ record old {
      read = new.read;
      modes = new.modes;
      was_done = set;
      actions = new.actions;
      calls = new.calls;
    }
