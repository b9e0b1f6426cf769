-- What it means that something is found of a file, and that nothing is found missing or changed.
-- Source: this project's own rule; chown(2) for what an owner is.
use Rattle.std.specs.Prelude.{◌≡◌, ◌≢◌, ◌↔◌, ◌⊎◌, ℕ, Bool, true, false}
use Rattle.std.specs.Prelude.{List, Option, Some, None}
use Rattle.std.specs.Prelude.{All, Contains}
use Rattle.hosts_join.specs.Kinds.{user_at, group_at}
use Rattle.mtree_inv.specs.declared.entry.Entry.{Entry}
use Rattle.mtree_inv.specs.Files.{HaveDistinctFiles}
use Rattle.kept_names.specs.Kept.{findings}
use Rattle.kept_names.specs.declared.names.Renumbering.{Renumbering}
use Rattle.kept_names.specs.declared.finding.What.{What}
use Rattle.kept_names.specs.declared.finding.What.TheVariants.{Missing, Changed, New, Unnamed, Left}

-- an owner has the name that it had; one that had no name has its number still, and no name
pub record KeepsName (was now : Option (List ℕ)) (old new : ℕ) : Type 0 where
  pub named : (name : List ℕ) → was ≡ Some name → now ≡ Some name
  pub unnamed : was ≡ None → now ≡ None
  pub number : was ≡ None → new ≡ old

-- a file, which is `there` in the second inventory, has the user and the group that it had
pub record KeepsOwner (renumbering : Renumbering) (file there : Entry) : Type 0 where
  pub user : KeepsName (user_at renumbering.before.users file.uid)
      (user_at renumbering.after.users there.uid) file.uid there.uid
  pub group : KeepsName (group_at renumbering.before.groups file.gid)
      (group_at renumbering.after.groups there.gid) file.gid there.gid

-- a file of the first inventory is in the second, with its owner
abbrev pub IsKept : Renumbering → List Entry → Entry → Type 0
IsKept renumbering after file =
    (there : Entry) × Contains after there × (there.path ≡ file.path)
    × KeepsOwner renumbering file there

-- that something is lost: a file, or the name of an owner
abbrev pub is_loss : What → Bool
is_loss Missing = true
is_loss (Changed uid gid) = true
is_loss New = false
is_loss (Unnamed user group) = false
is_loss (Left user group) = false

-- nothing is found missing or changed exactly where each file of the first inventory is kept
abbrev pub NothingLostIsKept : Type 0
NothingLostIsKept = (renumbering : Renumbering) (before after : List Entry)
    → HaveDistinctFiles after
    → All (λ found. is_loss found.what ≡ false) (findings renumbering before after)
    ↔ All (IsKept renumbering after) before

-- ---- each kind of finding

-- this is found of the file
abbrev pub IsFound : Renumbering → List Entry → List Entry → Entry → What → Type 0
IsFound renumbering before after file what =
    Contains (findings renumbering before after) (record { file = file; what = what })

-- no file has the path
abbrev pub HasNoFileAt : List Entry → List ℕ → Type 0
HasNoFileAt files path = All (λ file. file.path ≢ path) files

-- the flag is set exactly where this holds
abbrev pub Says : Bool → Type 0 → Type 0
Says flag it = (flag ≡ true) ↔ it

-- one of two flags is set
abbrev pub SomeIsSet : Bool → Bool → Type 0
SomeIsSet user group = (user ≡ true) ⊎ (group ≡ true)

-- a number had a name, and no longer has this name
pub record IsLeft (was now : Option (List ℕ)) : Type 0 where
  pub name : List ℕ
  pub had : was ≡ Some name
  pub lost : now ≢ Some name

-- of an owner the number now is told exactly where it no longer has the name that it had
pub record TellsNumber (was now : Option (List ℕ)) (old new : ℕ) (told : Option ℕ) : Type 0 where
  pub none : (told ≡ None) ↔ KeepsName was now old new
  pub right : (number : ℕ) → told ≡ Some number → number ≡ new

-- a file, which is `there` in the second inventory, has another user or another group by name
pub record IsChanged (renumbering : Renumbering) (file there : Entry) (uid gid : Option ℕ)
    : Type 0 where
  pub user : TellsNumber (user_at renumbering.before.users file.uid)
      (user_at renumbering.after.users there.uid) file.uid there.uid uid
  pub group : TellsNumber (group_at renumbering.before.groups file.gid)
      (group_at renumbering.after.groups there.gid) file.gid there.gid gid
  pub either : (uid ≢ None) ⊎ (gid ≢ None)

-- a file is missing exactly where it is in the first inventory, and the second has none at its path
abbrev pub MissingAreTold : Type 0
MissingAreTold = (renumbering : Renumbering) (before after : List Entry) (file : Entry)
    → IsFound renumbering before after file Missing
    ↔ (Contains before file × HasNoFileAt after file.path)

-- a file is changed exactly where it is in both, and its user or its group is another by name
abbrev pub ChangedAreTold : Type 0
ChangedAreTold = (renumbering : Renumbering) (before after : List Entry) (file : Entry)
    (uid gid : Option ℕ) → HaveDistinctFiles after
    → IsFound renumbering before after file (Changed uid gid)
    ↔ (Contains before file
    × ((there : Entry) × Contains after there × (there.path ≡ file.path)
    × IsChanged renumbering file there uid gid))

-- a file is new exactly where it is in the second, and the first has none at its path
abbrev pub NewAreTold : Type 0
NewAreTold = (renumbering : Renumbering) (before after : List Entry) (file : Entry)
    → IsFound renumbering before after file New
    ↔ (Contains after file × HasNoFileAt before file.path)

-- a file is unnamed exactly where it is in the second, and its user or its group has no name now
abbrev pub UnnamedAreTold : Type 0
UnnamedAreTold = (renumbering : Renumbering) (before after : List Entry) (file : Entry)
    (user group : Bool) → IsFound renumbering before after file (Unnamed user group)
    ↔ (Contains after file × SomeIsSet user group
    × Says user (user_at renumbering.after.users file.uid ≡ None)
    × Says group (group_at renumbering.after.groups file.gid ≡ None))

-- A file has a number that is left exactly where it is new, and the number of its user or that of
-- its group had a name and no longer has this name.
abbrev pub LeftAreTold : Type 0
LeftAreTold = (renumbering : Renumbering) (before after : List Entry) (file : Entry)
    (user group : Bool) → IsFound renumbering before after file (Left user group)
    ↔ (Contains after file × HasNoFileAt before file.path × SomeIsSet user group
    × Says user (IsLeft (user_at renumbering.before.users file.uid)
    (user_at renumbering.after.users file.uid))
    × Says group (IsLeft (group_at renumbering.before.groups file.gid)
    (group_at renumbering.after.groups file.gid)))
