-- What a host's own passwd and group say when they are read with their new numbers, where more
-- stands in them than was joined of the host: rows whose names the site does not have are kept.
-- Sources: passwd(5) and group(5), DESCRIPTION (one account a line, its fields between colons).
-- Which rows are kept, and that they stay as they are, is this project's own rule.
use Rattle.std.specs.Prelude.{◌≡◌, ℕ, false, List, length, filter, Option, Some, None, Result, Ok}
use Rattle.std.specs.Prelude.{All, MatchBool, MatchOption, slice_get}
use Rattle.std.specs.List.{AllZip}
use Rattle.idtext.specs.declared.faults.TextFault.{TextFault}
use Rattle.accounts.specs.Rows.{Passwd, Group, passwd_from, group_from}
use Rattle.accounts.specs.Tables.{passwd_table, group_table}
use Rattle.hosts_join.specs.Accounts.{Accounts}
use Rattle.hosts_join.specs.Kinds.{user_at, group_at}
use Rattle.hosts_join.specs.Laws.{KnowsHost}
use Rattle.hosts_join.specs.Rules.{is_name}
use Rattle.hosts_join.specs.Site.{Joined}
use Rattle.hosts_join.specs.declared.host.Host.{Host}
use Rattle.ownership.specs.Mappings.{IsMapping}
use Rattle.ownership.specs.declared.mapping.Mappings.{Mappings}
use Rattle.mergedfiles.specs.HostFiles.{host_users, host_groups}
use Rattle.mergedfiles.specs.HostReadBack.{AreLinesRenumbered, NamesAreKept}
use Rattle.mergedfiles.specs.ReadBack.{HasNumber, IsGivenToNone, IsNumbered, KeepsLimits}

-- ---- the rows that were joined, and those that are kept

-- Of the rows of a full table those were joined whose names the site has; the others are kept.
-- The mapping gives each name a number of its own, and none the number of a row that is kept.
-- name, number: of a row
pub record AreNumberedRows {Row : Type 0} (name : Row → List ℕ) (number : Row → ℕ)
    (a : Accounts) (m : List ℕ) (full joined : List Row) : Type 0 where
  pub numbers : IsMapping m
  pub len : length m ≡ length a.names
  pub joined_are : joined ≡ filter (λ row. is_name a.names (name row)) full
  pub kept : All (λ row. is_name a.names (name row) ≡ false → IsGivenToNone a m (number row)) full

-- a host as its texts tell it in full, and what of it was joined
pub record IsNumberedHost (site : Joined) (m : Mappings) (full host : Host) : Type 0 where
  pub users : AreNumberedRows (λ row. row.name) (λ row. row.uid) site.users m.users
      full.users host.users
  pub groups : AreNumberedRows (λ row. row.name) (λ row. row.gid) site.groups m.groups
      full.groups host.groups

-- so is each host of a numbered site that was joined in full: nothing of it is kept
-- h: the index of the host
abbrev pub HostsJoinInFull : Type 0
HostsJoinInFull = (hosts : List Host) (site : Joined) (m : Mappings) (h : ℕ) (host : Host)
    → IsNumbered hosts site m → slice_get hosts h ≡ Some host → IsNumberedHost site m host host

-- ---- what a text says

-- A number that a name had has become the new one of this name. One that no name had stays as it
-- is, and no name is given it.
abbrev pub IsRenumbered : Accounts → List ℕ → Option (List ℕ) → ℕ → ℕ → Type 0
IsRenumbered a m (Some name) old new = HasNumber a m name new
IsRenumbered a m None old new = (new ≡ old) × IsGivenToNone a m new

-- The text of an account file has become another, line by line. If the new one has a table, this is
-- the full table of the old one, row by row changed; it has one where it keeps the limits of an
-- account file. By its rows a new number has the name that the number before it had in the full
-- table, and none where that had none.
-- from: the row that the fields of a line make
-- table_of: the table of a text
-- name_at: the name that a table gives a number
-- Becomes was row: the row `was` has become `row`
-- full, joined: the rows of the full table, and those of them that were joined
pub record IsFullFile {Row : Type 0} (from : ℕ → List (List ℕ) → Result Row TextFault)
    (table_of : List ℕ → Result (List Row) TextFault)
    (name_at : List Row → ℕ → Option (List ℕ)) (Becomes : Row → Row → Type 0)
    (a : Accounts) (m : List ℕ) (full joined : List Row) (old new : List ℕ) : Type 0 where
  pub by_line : AreLinesRenumbered from Becomes old new
  pub rows : List Row
  pub by_row : AllZip Becomes full rows
  pub only : (table : List Row) → table_of new ≡ Ok table → table ≡ rows
  pub whole : KeepsLimits new → table_of new ≡ Ok rows
  pub names_are_kept : (id number : ℕ) → IsRenumbered a m (name_at joined id) id number
      → name_at rows number ≡ name_at full id

-- ---- a host's passwd

-- A row of a host's passwd has become one with the new number of its name as uid, where the site
-- has the name, and as gid the new number of the group that was joined with the old gid, where
-- there is one; else each stays. All else is as it was.
pub record IsFullUser (host : Host) (site : Joined) (m : Mappings) (was row : Passwd)
    : Type 0 where
  pub line : row.line ≡ was.line
  pub name : row.name ≡ was.name
  pub password : row.password ≡ was.password
  pub uid : MatchBool (is_name site.users.names was.name)
      (HasNumber site.users m.users was.name row.uid) (row.uid ≡ was.uid)
  pub gid : MatchOption (group_at host.groups was.gid) (row.gid ≡ was.gid)
      (λ group. HasNumber site.groups m.groups group row.gid)
  pub comment : row.comment ≡ was.comment
  pub home : row.home ≡ was.home
  pub shell : row.shell ≡ was.shell

abbrev pub IsFullPasswd : Joined → Mappings → Host → Host → List ℕ → List ℕ → Type 0
IsFullPasswd site m full host = IsFullFile passwd_from passwd_table user_at
    (IsFullUser host site m) site.users m.users full.users host.users

abbrev pub FullPasswdReadsBack : Type 0
FullPasswdReadsBack = (site : Joined) (m : Mappings) (full host : Host) (text : List ℕ)
    → IsNumberedHost site m full host → passwd_table text ≡ Ok full.users
    → IsFullPasswd site m full host text (host_users host site m text)

-- ---- a host's group

-- A row of a host's group has become one with the new number of its name, where the site has the
-- name; else this stays. All else is as it was, with the user list as it stands.
pub record IsFullGroup (site : Joined) (m : Mappings) (was row : Group) : Type 0 where
  pub line : row.line ≡ was.line
  pub name : row.name ≡ was.name
  pub password : row.password ≡ was.password
  pub gid : MatchBool (is_name site.groups.names was.name)
      (HasNumber site.groups m.groups was.name row.gid) (row.gid ≡ was.gid)
  pub members : row.members ≡ was.members

abbrev pub IsFullGroupFile : Joined → Mappings → Host → Host → List ℕ → List ℕ → Type 0
IsFullGroupFile site m full host = IsFullFile group_from group_table group_at
    (IsFullGroup site m) site.groups m.groups full.groups host.groups

abbrev pub FullGroupReadsBack : Type 0
FullGroupReadsBack = (site : Joined) (m : Mappings) (full host : Host) (text : List ℕ)
    → IsNumberedHost site m full host → group_table text ≡ Ok full.groups
    → IsFullGroupFile site m full host text (host_groups site m.groups text)

-- ---- names

-- The tables of both texts keep the names of the host in full: its kept ones, whose numbers no
-- plan changes, as well as those of the site, which knows the host by what was joined of it.
-- h: the index of the host
abbrev pub FullNamesAreKept : Type 0
FullNamesAreKept = (site : Joined) (m : Mappings) (h : ℕ) (full host : Host)
    (passwd group : List ℕ) (users : List Passwd) (groups : List Group)
    → IsNumberedHost site m full host → KnowsHost site h host
    → passwd_table passwd ≡ Ok full.users → group_table group ≡ Ok full.groups
    → passwd_table (host_users host site m passwd) ≡ Ok users
    → group_table (host_groups site m.groups group) ≡ Ok groups
    → NamesAreKept site m h full users groups
