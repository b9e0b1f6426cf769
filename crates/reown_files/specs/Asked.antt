-- What the system was asked of the files below a directory, and told; and the names of those that
-- have several. It stands with the newest first.
-- Source: this project's own rule.
use Rattle.std.specs.Prelude.{◌≡◌, ◌≢◌, ◌⊎◌, ℕ, ◌+◌, ◌-◌, Bool, true, false, ◌&&◌, ◌||◌, not}
use Rattle.std.specs.Prelude.{nat_lt, List, [], ◌∷◌, Option, None, Some, option_map}
use Rattle.std.specs.Prelude.{if◌then◌else◌}
use Rattle.std.specs.Str.{bytes_eq}
use Rattle.reown_plan.specs.declared.plan.Owner.{Owner}
use Rattle.reown_plan.specs.Owners.{owner_eq}
use Rattle.reown_files.specs.declared.answers.Modes.{Modes}
use Rattle.reown_files.specs.declared.answers.Trouble.{Trouble}
use Rattle.reown_files.specs.declared.answers.Trouble.TheVariants.{LinkedElsewhere}
use Rattle.reown_files.specs.declared.names.Names.{Names}
use Rattle.reown_files.specs.declared.walk.Found.{Found}
use Rattle.reown_files.specs.declared.walk.Kind.TheVariants.{Other}
use Rattle.reown_files.specs.Looks.{is_other, has_set_id, has_several_names, FileId, id_of}
use Rattle.reown_files.specs.Looks.{is_file}
use Rattle.reown_files.specs.MarkText.{line_text}
use Rattle.reown_files.specs.OneFile.{AreOneFile}

-- ---- what was asked

-- each thing that was done, or told, with the path of the file
pub data Asked : Type 0 where
  -- a look told this of a file
  Told : (path : List ℕ) (found : Found) → Asked
  -- a name of a file that was told, which is to have this owner, was counted
  Counted : (path : List ℕ) (found : Found) (after : Owner) → Asked
  -- a name of a file that was told is to have its new owner now
  Awaited : (found : Found) → Asked
  -- a file was given this owner
  Given : (path : List ℕ) (after : Owner) → Asked
  -- a file was given this mode
  ModeGiven : (path : List ℕ) (mode : ℕ) → Asked
  -- a file was synced
  Synced : (path : List ℕ) → Asked

-- ---- the names of a file that has several

abbrev pub with_name : Owner → Option Names → Names
with_name after None = record { met = 1; left = 1; after = after }
with_name after (Some names) =
    record { met = names.met + 1; left = names.left + 1; after = after }

abbrev pub one_less : Names → Names
one_less names = record names { left = names.left - 1 }

-- the look told of this file, and that it has several names
abbrev pub is_named : FileId → Found → Bool
is_named id found = has_several_names found && is_file id found

-- how many of them were counted, how many of those are to have their new owner still, and that
abbrev pub names_of : FileId → List Asked → Option Names
names_of id [] = None
names_of id (Counted path found after ∷ asked) =
    if is_named id found then Some (with_name after (names_of id asked)) else names_of id asked
names_of id (Awaited found ∷ asked) =
    if is_named id found then option_map one_less (names_of id asked) else names_of id asked
names_of id (_ ∷ asked) = names_of id asked

abbrev pub met_of : Option Names → ℕ
met_of None = 0
met_of (Some names) = names.met

abbrev pub left_of : Option Names → ℕ
left_of None = 0
left_of (Some names) = names.left

-- whether a name of a file that has several was counted by this path
abbrev pub is_counted : List ℕ → List Asked → Bool
is_counted path [] = false
is_counted path (Counted q found after ∷ asked) =
    (has_several_names found && bytes_eq path q) || is_counted path asked
is_counted path (_ ∷ asked) = is_counted path asked

-- all names of a file were counted, where it has several
abbrev pub HasAllNames : Found → List Asked → Type 0
HasAllNames found asked =
    has_several_names found ≡ true → met_of (names_of (id_of found) asked) ≡ found.links

-- other names of a file are to have its new owner still: it is given to it with the last of them
abbrev pub waits : Found → List Asked → Bool
waits found asked = has_several_names found && nat_lt 1 (left_of (names_of (id_of found) asked))

-- another of its names was counted, with another new owner
abbrev pub IsOtherwise : Owner → Option Names → Type 0
IsOtherwise after None = ⊥
IsOtherwise after (Some names) = names.after ≢ after

-- no name of a file that has several was counted with another new owner
abbrev pub HasOneOwner : Owner → Found → List Asked → Type 0
HasOneOwner after found asked =
    has_several_names found ≡ true → ¬ IsOtherwise after (names_of (id_of found) asked)

-- ---- what each call asks for

-- a file is synced by itself, where no sync of all keeps it: that does for links and the like, and
-- where there is one journal
abbrev pub with_sync : Bool → List ℕ → Found → List Asked → List Asked
with_sync one_journal path found asked =
    if one_journal || is_other found.kind then asked else Synced path ∷ asked

-- a file is met: it is looked at, its name is counted, and it is synced where it has its new owner
abbrev pub met : Bool → List ℕ → Owner → Found → List Asked → List Asked
met one_journal path after found asked =
    if owner_eq found.owner after
    then with_sync one_journal path found (Counted path found after ∷ Told path found ∷ asked)
    else Counted path found after ∷ Told path found ∷ asked

-- its line is written down where it is at another owner than its new one and has such a bit
abbrev pub line_of : List ℕ → Owner → Found → List ℕ
line_of path after found =
    if not (owner_eq found.owner after) && has_set_id found then line_text path found.mode else []

-- a file was looked at once, or not at all
abbrev pub IsToldAtMost : List ℕ → List Asked → List Asked → Type 0
IsToldAtMost path old new = (new ≡ old) ⊎ ((found : Found) × (new ≡ Told path found ∷ old))

-- a file could not be met: it was looked at at most; or its name was counted too, and the file not
-- synced, or its line not written down
abbrev pub IsMetAtMost : List ℕ → Owner → List Asked → List Asked → Type 0
IsMetAtMost path after old new =
    IsToldAtMost path old new
    ⊎ ((found : Found) × (new ≡ Counted path found after ∷ Told path found ∷ old))

-- a file was given an owner, and looked at again
abbrev pub IsChanged : List ℕ → Owner → Found → ℕ → List Asked → List Asked → Type 0
IsChanged path after found mode old new =
    (now : Found) × (now.owner ≡ after) × AreOneFile now found × (mode ≡ now.mode)
    × (new ≡ Told path now ∷ Given path after ∷ Awaited found ∷ Told path found ∷ old)

-- a file that had one owner is given another with the last of its names, and its modes before and
-- after that are told; nothing is done with the names before that
abbrev pub IsGiven : List ℕ → Owner → Owner → Modes → List Asked → List Asked → Type 0
IsGiven path before after modes old new =
    (found : Found) × (found.owner ≡ before) × (modes.before ≡ found.mode)
    × (((waits found old ≡ true) × (modes.after ≡ found.mode)
    × (new ≡ Awaited found ∷ Told path found ∷ old))
    ⊎ ((waits found old ≡ false) × IsChanged path after found modes.after old new))

-- a file could not be given an owner: it was looked at at most; or it had the owner that is named,
-- this was the last of its names, and it was given the other at most and looked at again at most
abbrev pub IsGivenAtMost : List ℕ → Owner → Owner → List Asked → List Asked → Type 0
IsGivenAtMost path before after old new =
    IsToldAtMost path old new
    ⊎ ((found : Found) × (found.owner ≡ before) × (waits found old ≡ false)
    × ((new ≡ Awaited found ∷ Told path found ∷ old)
    ⊎ IsToldAtMost path (Given path after ∷ Awaited found ∷ Told path found ∷ old) new))

-- a file that was met as one with several names was looked at, and all of them were counted
abbrev pub HasNamesMet : List ℕ → List Asked → List Asked → Type 0
HasNamesMet path old new =
    ((is_counted path old ≡ false) × (new ≡ old))
    ⊎ ((found : Found) × (new ≡ Told path found ∷ old) × HasAllNames found old)

-- it was looked at and they were not, or it could not be looked at
abbrev pub LacksNames : List ℕ → Trouble → List Asked → List Asked → Type 0
LacksNames path trouble old new =
    (new ≡ old)
    ⊎ ((found : Found) × (new ≡ Told path found ∷ old) × (trouble ≡ LinkedElsewhere)
    × (¬ HasAllNames found old))

-- a file that has this owner, and is opened, was given this mode
abbrev pub IsModeSet : List ℕ → Owner → ℕ → List Asked → List Asked → Type 0
IsModeSet path owner mode old new =
    (found : Found) × (found.owner ≡ owner) × (found.kind ≢ Other)
    × (new ≡ ModeGiven path mode ∷ Told path found ∷ old)

-- a file that has this owner was synced
abbrev pub IsKept : Bool → List ℕ → Owner → List Asked → List Asked → Type 0
IsKept one_journal path owner old new =
    (found : Found) × (found.owner ≡ owner)
    × (new ≡ with_sync one_journal path found (Told path found ∷ old))
