-- What was done to the files of the mark and of the modes, and to the root. It stands with the
-- newest first.
-- Source: this project's own rule.
use Rattle.std.specs.Prelude.{◌≡◌, ◌⊎◌, ℕ, Bool, true, false, List, ◌∷◌, Option, None, Some}
use Rattle.std.specs.Prelude.{if◌then◌else◌, ◌++◌, codes}
use Rattle.reown_plan.specs.declared.mark.PlanMark.{PlanMark}
use Rattle.reown_files.specs.MarkText.{mark_told}

pub data Action : Type 0 where
  -- the file at this path was read: this is its text, or as much of it as is read, if it is there
  FileRead : (path : List ℕ) (text : Option (List ℕ)) → Action
  -- this text was put at this path, whole: it was written as a new file at another, and renamed
  TextPut : (new path text : List ℕ) → Action
  -- the name of the file at this path was synced
  NameSynced : (path : List ℕ) → Action
  -- what was at this path was removed, if it was there
  FileRemoved : (path : List ℕ) → Action
  -- the root was synced, and on a file system with one journal all that was changed before
  RootSettled : Action

-- where a text is written that is put at this path
abbrev pub new_beside : List ℕ → List ℕ
new_beside path = path ++ codes ".new"

-- ---- the mark

-- the file of the mark was read, and so it is told whether it is the mark of this plan
abbrev pub IsMarkRead : List ℕ → PlanMark → Bool → List Action → List Action → Type 0
IsMarkRead mark plan set old new =
    (text : Option (List ℕ)) × (mark_told plan text ≡ Some set) × (new ≡ FileRead mark text ∷ old)

-- a mark is met: it is read, and synced where it is there
abbrev pub mark_met : List ℕ → Option (List ℕ) → Bool → List Action → List Action
mark_met mark text set actions =
    if set then NameSynced mark ∷ FileRead mark text ∷ actions else FileRead mark text ∷ actions

abbrev pub IsMarkMet : List ℕ → PlanMark → Bool → List Action → List Action → Type 0
IsMarkMet mark plan set old new =
    (text : Option (List ℕ)) × (mark_told plan text ≡ Some set)
    × (new ≡ mark_met mark text set old)

-- a mark that could not be seen or met was read at most; it was not synced
abbrev pub IsReadAtMost : List ℕ → List Action → List Action → Type 0
IsReadAtMost mark old new =
    (new ≡ old) ⊎ ((text : Option (List ℕ)) × (new ≡ FileRead mark text ∷ old))

-- the mark is kept: it is synced, and after that the modes are removed, where this run has put both
abbrev pub mark_kept : List ℕ → List ℕ → Bool → List Action → List Action
mark_kept mark modes are_over actions =
    if are_over then FileRemoved modes ∷ NameSynced mark ∷ actions else NameSynced mark ∷ actions

-- a mark that could not be kept was not synced; or it was, and then the modes were not removed,
-- where this run has put both
abbrev pub IsMarkSyncedAtMost : List ℕ → Bool → List Action → List Action → Type 0
IsMarkSyncedAtMost mark are_over old new =
    (new ≡ old) ⊎ ((are_over ≡ true) × (new ≡ NameSynced mark ∷ old))

-- ---- the modes

-- the file of the modes is read, and then that of the mark where the first is there
abbrev pub modes_read
    : List ℕ → List ℕ → Option (List ℕ) → Option (List ℕ) → List Action → List Action
modes_read mark modes beside None actions = FileRead modes None ∷ actions
modes_read mark modes beside (Some text) actions =
    FileRead mark beside ∷ FileRead modes (Some text) ∷ actions

-- modes that could not be read: the file of the modes was read at most, and then that of the mark
abbrev pub IsModesReadAtMost : List ℕ → List ℕ → List Action → List Action → Type 0
IsModesReadAtMost mark modes old new =
    (new ≡ old)
    ⊎ ((text : Option (List ℕ)) × IsReadAtMost mark (FileRead modes text ∷ old) new)

-- the modes are written down: their text is put, and its name synced; where the mark of the plan
-- was there, the file is removed instead
abbrev pub modes_put : List ℕ → Bool → List ℕ → List Action → List Action
modes_put modes was_done text actions =
    if was_done then FileRemoved modes ∷ actions
    else NameSynced modes ∷ TextPut (new_beside modes) modes text ∷ actions

-- modes that could not be written down were put at most, and not synced
abbrev pub IsModesPutAtMost : List ℕ → Bool → List ℕ → List Action → List Action → Type 0
IsModesPutAtMost modes was_done text old new =
    (new ≡ old) ⊎ ((was_done ≡ false) × (new ≡ TextPut (new_beside modes) modes text ∷ old))
