-- What the calls of a root ask of a file, what they answer and write down, and what they do to the
-- mark, by example.
-- Sources: inode(7) for the bits of a mode: 2541, 493 and 448 are 4755, 755 and 700 to the base 8;
-- chown(2) for the bits that a change of the owner clears. All else is this project's own rule.
use Rattle.std.specs.Prelude.{◌≡◌, ◌↔◌, ℕ, Bool, true, false, List, [], ◌∷◌, ◌++◌, codes}
use Rattle.std.specs.Prelude.{Option, None, Some, drop, length, ◌-◌}
use Rattle.reown_plan.specs.declared.plan.Owner.{Owner}
use Rattle.reown_files.specs.declared.answers.Modes.{Modes}
use Rattle.reown_files.specs.declared.answers.Seen.{Seen}
use Rattle.reown_files.specs.declared.walk.Found.{Found}
use Rattle.reown_files.specs.declared.walk.Kind.TheVariants.{Regular}
use Rattle.reown_files.specs.Asked.{Asked, Told, Counted, Awaited, Given, ModeGiven, Synced}
use Rattle.reown_files.specs.Asked.{IsGiven, IsGivenAtMost, IsModeSet, IsKept}
use Rattle.reown_files.specs.Actions.{Action, FileRead, TextPut, NameSynced, FileRemoved, mark_met}
use Rattle.reown_files.specs.Actions.{new_beside, mark_kept, modes_read, modes_put, IsReadAtMost}
use Rattle.reown_files.specs.Actions.{IsMarkSyncedAtMost, IsModesReadAtMost, IsModesPutAtMost}
use Rattle.reown_files.specs.NamesExample.{path, told, program, file_at, at_old, twice, both_met}
use Rattle.reown_files.specs.RootData.{RootData, IsSeen, IsSeenAt, IsMet, HasLostAt}
use Rattle.reown_files.specs.RootData.{TellsLost, modes_beside, is_absolute, IsPathFrom}
use Rattle.reown_files.specs.Runs.{old, new, foreign}

-- where the mark stands, and the file of the modes
abbrev pub mark : List ℕ
mark = codes "plan.done"

abbrev pub modes : List ℕ
modes = codes "plan.done.modes"

-- a root with one journal or without, what the system was asked of its files, and the lines of
-- modes that were written down
abbrev pub root : Bool → List Asked → List ℕ → RootData
root one_journal files lines =
    record {
      has_one_journal = one_journal;
      files = files;
      lines = lines;
      read = None;
      modes = [];
      mark_path = mark;
      modes_path = modes;
      was_done = false;
      is_put = false;
      has_put_modes = false;
      actions = [];
      calls = [];
    }

-- one without a journal and without lines, of whose files this was asked
abbrev pub asked : List Asked → RootData
asked files = root false files []

-- one of which nothing was asked but a look, which told this file
abbrev pub looked_at : Found → RootData
looked_at found = asked (Told path found ∷ [])

-- the program at its new owner: as the change leaves it, and with its mode set back
abbrev pub bare : Found
bare = file_at new Regular 493 1

abbrev pub whole : Found
whole = file_at new Regular 2541 1

-- where a look told the program exactly this is answered of it, and without a look nothing
pub record ExampleOfAnswers : Type 0 where
  pub seen : (seen : Seen)
      → IsSeen path seen (asked []) (looked_at program) ↔ (seen ≡ at_old true false)
  pub owner : (owner : Owner)
      → IsSeenAt path owner (asked []) (looked_at program) ↔ (owner ≡ old)
  pub not_seen : (seen : Seen) → ¬ IsSeen path seen (asked []) (asked [])
  pub no_owner : (owner : Owner) → ¬ IsSeenAt path owner (asked []) (asked [])
  pub not_met : (owner : Owner) → ¬ IsMet path new owner (asked []) (asked [])

-- where the program is met its owner is answered, and its mode stands after the lines that were
-- there; at its new owner it is synced exactly where there is not one journal; and another name of
-- a file is met with the new owner of the first alone
pub record ExampleOfMet : Type 0 where
  pub line : (owner : Owner) (lines : List ℕ)
      → IsMet path new owner
      (root false [] (codes "4755 bin/ps\n")) (root false (told program) lines)
      ↔ ((owner ≡ old) × (lines ≡ codes "4755 bin/ps\n4755 bin/su\n"))
  pub synced : (one_journal : Bool)
      → IsMet path new new
      (root one_journal [] []) (root one_journal (Synced path ∷ told whole) [])
      ↔ (one_journal ≡ false)
  pub unsynced : (one_journal : Bool)
      → IsMet path new new (root one_journal [] []) (root one_journal (told whole) [])
      ↔ (one_journal ≡ true)
  pub same_owner : IsMet path new old
      (asked both_met) (asked (Counted path twice new ∷ Told path twice ∷ both_met))
  pub other_owner : ¬ IsMet path foreign old
      (asked both_met) (asked (Counted path twice foreign ∷ Told path twice ∷ both_met))

-- a mode is lost where the file has the owner that is named and lacks a set-ID bit of it; and not
-- where somebody has set another mode. The mode that was read is told exactly where it is lost, and
-- none where none was read
pub record ExampleOfLost : Type 0 where
  pub lost : (owner : Owner)
      → HasLostAt path owner 2541 (asked []) (looked_at bare) ↔ (owner ≡ new)
  pub other_mode : ¬ HasLostAt path new 2541 (asked []) (looked_at (file_at new Regular 448 1))
  pub told : (mode : Option ℕ)
      → TellsLost path new (Some 2541) mode [] (Told path bare ∷ []) ↔ (mode ≡ Some 2541)
  pub other_owner : (mode : Option ℕ)
      → TellsLost path old (Some 2541) mode [] (Told path bare ∷ []) ↔ (mode ≡ None)
  pub not_lost : (mode : Option ℕ)
      → TellsLost path new (Some 2541) mode [] (Told path whole ∷ []) ↔ (mode ≡ None)
  pub not_read : (mode : Option ℕ)
      → TellsLost path new None mode [] [] ↔ (mode ≡ None)
  pub not_looked : (mode : Option ℕ) → ¬ TellsLost path new (Some 2541) mode [] []

-- a file at its old owner is given its new one, and no other, between two looks, and the modes that
-- these told are answered; one of which another name is to have that owner still is looked at
-- alone. Where the call fails the file is given that owner too, if one at all
pub record ExampleOfGiven : Type 0 where
  pub given : (after : Owner) (modes : Modes)
      → IsGiven path old after modes []
      (Told path bare ∷ Given path new ∷ Awaited program ∷ Told path program ∷ [])
      ↔ ((after ≡ new) × (modes ≡ record { before = 2541; after = 493 }))
  pub waiting : (after : Owner) (modes : Modes)
      → IsGiven path old after modes both_met (Awaited twice ∷ Told path twice ∷ both_met)
      ↔ (modes ≡ record { before = 493; after = 493 })
  pub failed : (after : Owner)
      → IsGivenAtMost path old after []
      (Given path new ∷ Awaited program ∷ Told path program ∷ [])
      ↔ (after ≡ new)

-- a file is given the mode that is named, and no other or none; one that is kept is synced exactly
-- where there is not one journal
pub record ExampleOfChanges : Type 0 where
  pub mode : (mode : ℕ)
      → IsModeSet path new mode [] (ModeGiven path 2541 ∷ Told path bare ∷ []) ↔ (mode ≡ 2541)
  pub no_mode : (mode : ℕ) → ¬ IsModeSet path new mode [] (Told path bare ∷ [])
  pub synced : (one_journal : Bool)
      → IsKept one_journal path new [] (Synced path ∷ Told path whole ∷ [])
      ↔ (one_journal ≡ false)
  pub unsynced : (one_journal : Bool)
      → IsKept one_journal path new [] (Told path whole ∷ []) ↔ (one_journal ≡ true)

-- a mark that is there is read and then synced when it is met; one that is kept is synced, and the
-- modes are removed after that, exactly where this run has put both. Modes that are there are read,
-- and then the mark beside them; their text is put and then synced, or the file removed, exactly
-- where the mark was there. Each is noted after what was done before. Where a mark cannot be met it
-- is never synced, where one cannot be kept no modes are removed, and modes that cannot be written
-- down are not synced; where they cannot be read nothing is put
pub record ExampleOfMarks (text : List ℕ) (before : List Action) : Type 0 where
  pub there : mark_met mark (Some text) true before
      ≡ NameSynced mark ∷ FileRead mark (Some text) ∷ before
  pub not_there : mark_met mark None false before ≡ FileRead mark None ∷ before
  pub put : mark_kept mark modes true before ≡ FileRemoved modes ∷ NameSynced mark ∷ before
  pub not_put : mark_kept mark modes false before ≡ NameSynced mark ∷ before
  pub read : modes_read mark modes None (Some text) before
      ≡ FileRead mark None ∷ FileRead modes (Some text) ∷ before
  pub no_modes : modes_read mark modes None None before ≡ FileRead modes None ∷ before
  pub written : modes_put modes false text before
      ≡ NameSynced modes ∷ TextPut (new_beside modes) modes text ∷ before
  pub done : modes_put modes true text before ≡ FileRemoved modes ∷ before
  pub not_met : (since : List Action)
      → ¬ IsReadAtMost mark before (NameSynced mark ∷ since ++ before)
  pub not_kept : (are_over : Bool) (since : List Action)
      → ¬ IsMarkSyncedAtMost mark are_over before (FileRemoved modes ∷ since ++ before)
  pub not_written : (was_done : Bool) (since : List Action)
      → ¬ IsModesPutAtMost modes was_done text before (NameSynced modes ∷ since ++ before)
  pub not_read : (since : List Action)
      → ¬ IsModesReadAtMost mark modes before
      (TextPut (new_beside modes) modes text ∷ since ++ before)

-- the modes stand beside the mark, which stands where it is named, and each is written beside itself
-- before it gets its name; a path that begins at the
-- working directory has a way to that before it, and a slash
pub record ExampleOfPaths : Type 0 where
  pub beside : modes_beside mark ≡ modes
  pub new : new_beside mark ≡ codes "plan.done.new"
  pub new_modes : new_beside modes ≡ codes "plan.done.modes.new"
  pub from_root : is_absolute (codes "/srv/plan.done") ≡ true
  pub from_here : is_absolute mark ≡ false
  pub same : (whole : List ℕ)
      → IsPathFrom true (codes "/srv/plan.done") whole ↔ (whole ≡ codes "/srv/plan.done")
  pub behind : IsPathFrom false mark (codes "/proc/self/fd/3/plan.done")
  pub ends : (whole : List ℕ) → IsPathFrom false mark whole
      → drop (length whole - 10) whole ≡ codes "/plan.done"
