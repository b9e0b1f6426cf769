-- Laws over what is asked of files.
-- Sources: chown(2) for the bits that a change of the owner clears; stat(2): a file is told by its
-- device and its number there. All else is this project's own rule.
use Rattle.std.specs.Prelude.{◌≡◌, ◌↔◌, ℕ, Bool, true, false, ◌&&◌, List, ◌∷◌, ◌++◌}
use Rattle.std.specs.Prelude.{count_by, Contains}
use Rattle.reown_plan.specs.declared.plan.Owner.{Owner}
use Rattle.reown_files.specs.Asked.{Asked, Told, Counted, Awaited, Given, waits, HasAllNames}
use Rattle.reown_files.specs.Asked.{IsGiven, IsGivenAtMost, IsModeSet, IsKept}
use Rattle.reown_files.specs.Asked.{HasNamesMet, LacksNames}
use Rattle.reown_files.specs.Looks.{has_several_names, is_file, id_of}
use Rattle.reown_files.specs.OneFile.{AreOneFile}
use Rattle.reown_files.specs.RootData.{RootData, HasLostAt}
use Rattle.reown_files.specs.declared.answers.Modes.{Modes}
use Rattle.reown_files.specs.declared.answers.Trouble.{Trouble}
use Rattle.reown_files.specs.declared.answers.Trouble.TheVariants.{LinkedElsewhere}
use Rattle.reown_files.specs.declared.walk.Found.{Found}

-- ---- owners

-- what was asked since begins with a look by this path, which told a file with this owner
abbrev pub BeginsWithLook : List ℕ → Owner → List Asked → List Asked → Type 0
BeginsWithLook path owner old new =
    (found : Found) × (found.owner ≡ owner) × (more : List Asked)
    × (new ≡ more ++ Told path found ∷ old)

-- nothing is done with a file, or told of its mode, before a look has told the owner that is named
pub record OwnersAreLookedAt : Type 0 where
  pub given : (path : List ℕ) (before after : Owner) (modes : Modes) (old new : List Asked)
      → IsGiven path before after modes old new → BeginsWithLook path before old new
  pub mode_set : (path : List ℕ) (owner : Owner) (mode : ℕ) (old new : List Asked)
      → IsModeSet path owner mode old new → BeginsWithLook path owner old new
  pub kept : (one_journal : Bool) (path : List ℕ) (owner : Owner) (old new : List Asked)
      → IsKept one_journal path owner old new → BeginsWithLook path owner old new
  pub lost : (path : List ℕ) (owner : Owner) (mode : ℕ) (old new : RootData)
      → HasLostAt path owner mode old new → BeginsWithLook path owner old.files new.files

-- two looks around a change told one file, at its old owner and at its new one, and these modes;
-- and no other name of the file is to have the new owner still
pub record IsGivenBetween
    (before after : Owner) (modes : Modes) (found now : Found) (old : List Asked)
    : Type 0 where
  pub from : found.owner ≡ before
  pub to : now.owner ≡ after
  pub one : AreOneFile now found
  pub mode_before : modes.before ≡ found.mode
  pub mode_after : modes.after ≡ now.mode
  pub last : waits found old ≡ false

-- other names of a file at its old owner are to have the new one still, and its mode stays
pub record IsAwaited (before : Owner) (modes : Modes) (found : Found) (old : List Asked)
    : Type 0 where
  pub from : found.owner ≡ before
  pub mode_before : modes.before ≡ found.mode
  pub mode_after : modes.after ≡ found.mode
  pub more : waits found old ≡ true

-- a file is given another owner between two such looks, with the last of its names, and before that
-- it waits; and the change is never the last that was asked. Where the call fails, it is given so
-- if at all
pub record FilesAreGivenBetweenLooks : Type 0 where
  pub given : (path : List ℕ) (before after : Owner) (modes : Modes)
      → (found now : Found) (old : List Asked)
      → IsGiven path before after modes old
      (Told path now ∷ Given path after ∷ Awaited found ∷ Told path found ∷ old)
      → IsGivenBetween before after modes found now old
  pub awaited : (path : List ℕ) (before after : Owner) (modes : Modes)
      → (found : Found) (old : List Asked)
      → IsGiven path before after modes old (Awaited found ∷ Told path found ∷ old)
      → IsAwaited before modes found old
  pub seen_again : (path : List ℕ) (before after : Owner) (modes : Modes) (old asked : List Asked)
      → ¬ IsGiven path before after modes old (Given path after ∷ asked)
  pub failed : (path : List ℕ) (before after : Owner) (found : Found) (old : List Asked)
      → IsGivenAtMost path before after old
      (Given path after ∷ Awaited found ∷ Told path found ∷ old)
      → (found.owner ≡ before) × (waits found old ≡ false)

-- ---- names

-- a name of the file was counted
abbrev pub is_name_of : Found → Asked → Bool
is_name_of found (Counted path seen after) =
    has_several_names seen && is_file (id_of found) seen
is_name_of found _ = false

-- a file with several names has all of them in the plan exactly where as many were counted as the
-- system tells of it
abbrev pub NamesAreAllCounted : Type 0
NamesAreAllCounted =
    (found : Found) (asked : List Asked)
    → HasAllNames found asked
    ↔ (has_several_names found ≡ true → count_by (is_name_of found) asked ≡ found.links)

-- a path by which a name of a file with several was counted is passed only after a look by it, and
-- only where all names of what that look told were counted; and after a look it is refused only
-- where they were not
pub record NamesAreChecked : Type 0 where
  pub looked : (path : List ℕ) (met : Found) (after : Owner) (old new : List Asked)
      → Contains old (Counted path met after) → has_several_names met ≡ true
      → HasNamesMet path old new
      → (found : Found) × (new ≡ Told path found ∷ old)
      × (has_several_names found ≡ true → count_by (is_name_of found) old ≡ found.links)
  pub refused : (path : List ℕ) (trouble : Trouble) (found : Found) (old : List Asked)
      → LacksNames path trouble old (Told path found ∷ old)
      → (trouble ≡ LinkedElsewhere) × (¬ HasAllNames found old)
