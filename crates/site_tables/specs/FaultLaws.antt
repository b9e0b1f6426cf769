-- Which file of a host is told, and why: a text by its reader, a file of the inventory by its
-- owner.
-- Source: passwd(5), group(5), login.defs(5) of the shadow suite and mtree(5); which fault is told
-- first is this project's own rule.
use Rattle.std.specs.Prelude.{◌≡◌, ◌≤◌, ◌⊎◌, ◌↔◌, ℕ, List, ◌∷◌, ◌++◌, Result, Ok, Err}
use Rattle.std.specs.Prelude.{All, Any}
use Rattle.accounts.specs.Rows.{Group, Passwd}
use Rattle.accounts.specs.Tables.{passwd_table, group_table}
use Rattle.idtext.specs.declared.faults.TextCode.{TextCode}
use Rattle.idtext.specs.declared.faults.TextFault.{TextFault}
use Rattle.logindefs.specs.Ranges.{ranges_of}
use Rattle.logindefs.specs.declared.ranges.IdRange.{IdRange}
use Rattle.mtree_inv.specs.declared.entry.Entry.{Entry}
use Rattle.mtree_inv.specs.Inventory.{inventory}
use Rattle.hosts_join.specs.declared.host.Host.{Host}
use Rattle.hosts_join.specs.declared.texts.HostText.{HostText}
use Rattle.unify_texts.specs.declared.bundle_line.FileName.{FileName}
use Rattle.unify_texts.specs.declared.bundle_line.FileName.TheVariants as file
use Rattle.unify_texts.specs.declared.fault.Fault.TheVariants.{Line, UnownedUid, UnownedGid}
use Rattle.unify_texts.specs.declared.fault.Fault.TheVariants.{NoPrimaryGroup}
use Rattle.site_tables.specs.declared.host.Loaded.{Loaded}
use Rattle.unify_texts.specs.Limits.{most_files}
use Rattle.site_tables.specs.Hosts.{files_of, host_of}

-- a reader takes a text
abbrev pub IsTaken : {X : Type 0} → Result X TextFault → Type 0
IsTaken {X} read = (x : X) × (read ≡ Ok x)

-- The reader of the file refuses this text of the host so, where those of the files before take
-- theirs: login.defs, then passwd, then group.
abbrev pub RefusesFile : HostText → TextFault → FileName → Type 0
RefusesFile text fault file.LoginDefs = ranges_of text.logindefs ≡ Err fault
RefusesFile text fault file.Passwd =
    IsTaken (ranges_of text.logindefs) × (passwd_table text.passwd ≡ Err fault)
RefusesFile text fault file.Group =
    IsTaken (ranges_of text.logindefs) × IsTaken (passwd_table text.passwd)
    × (group_table text.group ≡ Err fault)
RefusesFile text fault _ = ⊥

-- a line is told exactly where it is of this host, and its reader refuses the file so
abbrev pub LinesAreOfTheirFile : Type 0
LinesAreOfTheirFile =
    (text : HostText) (host : List ℕ) (name : FileName) (code : TextCode) (line : ℕ)
    → (host_of text ≡ Err (Line host name code line))
    ↔ ((host ≡ text.name) × RefusesFile text (record { code = code; line = line }) name)

-- one of the groups has the gid of the user
abbrev pub HasItsGroup : List Group → Passwd → Type 0
HasItsGroup groups user = Any (λ group. group.gid ≡ user.gid) groups

-- The readers take the files of the host; each user before one has a group, and this one, of the
-- name, has none.
pub record FirstWithoutGroup (text : HostText) (name : List ℕ) : Type 0 where
  pub ranges : IsTaken (ranges_of text.logindefs)
  pub earlier : List Passwd
  pub user : Passwd
  pub later : List Passwd
  pub users_are : passwd_table text.passwd ≡ Ok (earlier ++ user ∷ later)
  pub groups : List Group
  pub groups_are : group_table text.group ≡ Ok groups
  pub have_theirs : All (HasItsGroup groups) earlier
  pub named : user.name ≡ name
  pub has_none : HasItsGroup groups user → ⊥

-- a user is told exactly where it is the first of this host without a group
abbrev pub UsersWithoutGroupsAreTold : Type 0
UsersWithoutGroupsAreTold = (text : HostText) (host user : List ℕ)
    → (host_of text ≡ Err (NoPrimaryGroup host user))
    ↔ ((host ≡ text.name) × FirstWithoutGroup text user)

-- the number lies in one of the ranges
abbrev pub LiesInOne : List IdRange → ℕ → Type 0
LiesInOne ranges number = Any (λ range. (range.low ≤ number) × (number ≤ range.high)) ranges

-- an account of the host has the uid, or the host spares it
abbrev pub MayHaveUid : Host → ℕ → Type 0
MayHaveUid host uid = Any (λ row. row.uid ≡ uid) host.users ⊎ LiesInOne host.spared_users uid

-- and the gid
abbrev pub MayHaveGid : Host → ℕ → Type 0
MayHaveGid host gid = Any (λ row. row.gid ≡ gid) host.groups ⊎ LiesInOne host.spared_groups gid

-- The inventory is read; the files before one are allowed, which has the path, and of which this
-- holds.
pub record FirstUnowned (loaded : Loaded) (path : List ℕ) (Holds : Entry → Type 0) : Type 0 where
  pub earlier : List Entry
  pub unowned : Entry
  pub later : List Entry
  pub read : inventory most_files loaded.mtree ≡ Ok (earlier ++ unowned ∷ later)
  pub allowed : All (λ f. MayHaveUid loaded.host f.uid × MayHaveGid loaded.host f.gid) earlier
  pub named : unowned.path ≡ path
  pub holds : Holds unowned

-- a file is told exactly where it has this uid, which no file of the host may have
abbrev pub UidsAreOfTheirFile : Type 0
UidsAreOfTheirFile = (loaded : Loaded) (host : List ℕ) (uid : ℕ) (path : List ℕ)
    → (files_of loaded ≡ Err (UnownedUid host uid path))
    ↔ ((host ≡ loaded.host.name)
    × FirstUnowned loaded path (λ f. (f.uid ≡ uid) × (MayHaveUid loaded.host uid → ⊥)))

-- or has a uid that it may have, and this gid, which no file of the host may have
abbrev pub GidsAreOfTheirFile : Type 0
GidsAreOfTheirFile = (loaded : Loaded) (host : List ℕ) (gid : ℕ) (path : List ℕ)
    → (files_of loaded ≡ Err (UnownedGid host gid path))
    ↔ ((host ≡ loaded.host.name)
    × FirstUnowned loaded path (λ f. MayHaveUid loaded.host f.uid × (f.gid ≡ gid)
    × (MayHaveGid loaded.host gid → ⊥)))
