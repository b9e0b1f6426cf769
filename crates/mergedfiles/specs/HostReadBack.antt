-- What a host's own passwd and group say when they are read with their new numbers, by the
-- definitions by which every account file is read.
-- Sources: passwd(5) and group(5), DESCRIPTION (one account a line, its fields between colons).
-- That each line stays at its place, and all but the numbers as it was, is this project's own
-- rule.
use Rattle.std.specs.Prelude.{◌≡◌, ◌==◌, ℕ, ◌+◌, true, false, List, length, count_by, slice_get}
use Rattle.std.specs.Prelude.{Some, None, Result, Ok}
use Rattle.std.specs.List.{AllZip}
use Rattle.idtext.specs.declared.faults.TextFault.{TextFault}
use Rattle.idtext.specs.Names.{is_skipped}
use Rattle.idtext.specs.Pieces.{lines}
use Rattle.accounts.specs.Rows.{Passwd, Group, passwd_from, group_from}
use Rattle.accounts.specs.Tables.{passwd_table, group_table}
use Rattle.hosts_join.specs.Accounts.{owner}
use Rattle.hosts_join.specs.Kinds.{user_at, group_at}
use Rattle.hosts_join.specs.Site.{Joined}
use Rattle.hosts_join.specs.declared.host.Host.{Host}
use Rattle.ownership.specs.Mappings.{number_under}
use Rattle.ownership.specs.declared.mapping.Mappings.{Mappings}
use Rattle.mergedfiles.specs.HostFiles.{host_users, host_groups}
use Rattle.mergedfiles.specs.ReadBack.{HasNumber, IsGivenToNone, IsNumbered, IsRowLine}
use Rattle.mergedfiles.specs.ReadBack.{KeepsLimits}

-- ---- lines

-- from: the row that the fields of a line make
-- Becomes was row: the row `was` has become `row`
module _ {Row : Type 0} (from : ℕ → List (List ℕ) → Result Row TextFault)
    (Becomes : Row → Row → Type 0) where
  -- the line with number n was that of a row, and is that of the row which this one has become
  pub record IsRowRenumbered (n : ℕ) (old new : List ℕ) : Type 0 where
    pub was : Row
    pub was_read : IsRowLine from n old was
    pub row : Row
    pub read : IsRowLine from n new row
    pub becomes : Becomes was row

  -- a skipped line is the same, byte by byte; any other has the row that its row has become
  pub record IsLineRenumbered (n : ℕ) (old new : List ℕ) : Type 0 where
    pub skipped : is_skipped old ≡ true → new ≡ old
    pub kept : is_skipped old ≡ false → IsRowRenumbered n old new

  -- The lines stand one for one at the places that they had, with as many newlines: so the last
  -- one has a newline exactly where it had one.
  pub record AreLinesRenumbered (old new : List ℕ) : Type 0 where
    pub as_many : length (lines new) ≡ length (lines old)
    pub newlines : count_by (λ b. b == 10) new ≡ count_by (λ b. b == 10) old
    pub each_line : (k : ℕ) (line other : List ℕ) → slice_get (lines old) k ≡ Some line
        → slice_get (lines new) k ≡ Some other → IsLineRenumbered (k + 1) line other

-- ---- a host's passwd

-- A row of a host's passwd has become one with the new number of its user and, as gid, the new
-- number of the group that has the old gid on the host. All else is as it was.
pub record IsRenumberedUser (host : Host) (site : Joined) (m : Mappings)
    (was row : Passwd) : Type 0 where
  pub line : row.line ≡ was.line
  pub name : row.name ≡ was.name
  pub password : row.password ≡ was.password
  pub uid : HasNumber site.users m.users was.name row.uid
  pub group : List ℕ
  pub primary : group_at host.groups was.gid ≡ Some group
  pub gid : HasNumber site.groups m.groups group row.gid
  pub comment : row.comment ≡ was.comment
  pub home : row.home ≡ was.home
  pub shell : row.shell ≡ was.shell

-- The text of a host's passwd has become another, line by line. If it has a table, this is that of
-- the host, row by row renumbered; it has one where it keeps the limits of an account file, since
-- neither a name nor a number stands twice. A uid that was some user's has become the new number
-- of this user, and the new rows name that number as the same user.
pub record IsHostPasswd (host : Host) (site : Joined) (m : Mappings)
    (old new : List ℕ) : Type 0 where
  pub by_line : AreLinesRenumbered passwd_from (IsRenumberedUser host site m) old new
  pub rows : List Passwd
  pub by_row : AllZip (IsRenumberedUser host site m) host.users rows
  pub only : (table : List Passwd) → passwd_table new ≡ Ok table → table ≡ rows
  pub whole : KeepsLimits new → passwd_table new ≡ Ok rows
  pub names_are_kept : (uid number : ℕ) (name : List ℕ) → user_at host.users uid ≡ Some name
      → HasNumber site.users m.users name number → user_at rows number ≡ Some name

-- so it is for each host of a numbered site, and the text that its users were read from
-- h: the index of the host
abbrev pub HostPasswdReadsBack : Type 0
HostPasswdReadsBack = (hosts : List Host) (site : Joined) (m : Mappings) (h : ℕ) (host : Host)
    (text : List ℕ) → IsNumbered hosts site m → slice_get hosts h ≡ Some host
    → passwd_table text ≡ Ok host.users
    → IsHostPasswd host site m text (host_users host site m text)

-- ---- a host's group

-- A row of a host's group has become one with the new number of its name. All else is as it was,
-- with the user list as it stands.
pub record IsRenumberedGroup (site : Joined) (m : Mappings) (was row : Group) : Type 0 where
  pub line : row.line ≡ was.line
  pub name : row.name ≡ was.name
  pub password : row.password ≡ was.password
  pub gid : HasNumber site.groups m.groups was.name row.gid
  pub members : row.members ≡ was.members

pub record IsHostGroup (host : Host) (site : Joined) (m : Mappings)
    (old new : List ℕ) : Type 0 where
  pub by_line : AreLinesRenumbered group_from (IsRenumberedGroup site m) old new
  pub rows : List Group
  pub by_row : AllZip (IsRenumberedGroup site m) host.groups rows
  pub only : (table : List Group) → group_table new ≡ Ok table → table ≡ rows
  pub whole : KeepsLimits new → group_table new ≡ Ok rows
  pub names_are_kept : (gid number : ℕ) (name : List ℕ) → group_at host.groups gid ≡ Some name
      → HasNumber site.groups m.groups name number → group_at rows number ≡ Some name

abbrev pub HostGroupReadsBack : Type 0
HostGroupReadsBack = (hosts : List Host) (site : Joined) (m : Mappings) (h : ℕ) (host : Host)
    (text : List ℕ) → IsNumbered hosts site m → slice_get hosts h ≡ Some host
    → group_table text ≡ Ok host.groups
    → IsHostGroup host site m text (host_groups site m.groups text)

-- ---- names

-- a user's primary group has the name that it had
abbrev pub KeepsPrimary : List Group → List Group → Passwd → Passwd → Type 0
KeepsPrimary old new was row =
    (group : List ℕ) → group_at old was.gid ≡ Some group → group_at new row.gid ≡ Some group

-- A number of the host has become that of the name which owns it on the host: the number that a
-- plan gives to the host's files. By the new tables it is the number of the same user, and of the
-- same group, as the old one is by the host's tables; and a number that is no user's stays no
-- user's, and one that is no group's no group's, unless a name of the site has it. Each user keeps
-- its primary group.
-- h: the index of the host
pub record NamesAreKept (site : Joined) (m : Mappings) (h : ℕ) (host : Host)
    (users : List Passwd) (groups : List Group) : Type 0 where
  pub user_kept : (uid : ℕ) (name : List ℕ) → user_at host.users uid ≡ Some name
      → user_at users (number_under m.users (owner site.users.names h uid) uid) ≡ Some name
  pub group_kept : (gid : ℕ) (name : List ℕ) → group_at host.groups gid ≡ Some name
      → group_at groups (number_under m.groups (owner site.groups.names h gid) gid) ≡ Some name
  pub no_user : (uid : ℕ) → user_at host.users uid ≡ None
      → IsGivenToNone site.users m.users uid → user_at users uid ≡ None
  pub no_group : (gid : ℕ) → group_at host.groups gid ≡ None
      → IsGivenToNone site.groups m.groups gid → group_at groups gid ≡ None
  pub primary_kept : AllZip (KeepsPrimary host.groups groups) host.users users

-- so it is for the tables of each host's own files with their new numbers
abbrev pub HostNamesAreKept : Type 0
HostNamesAreKept = (hosts : List Host) (site : Joined) (m : Mappings) (h : ℕ) (host : Host)
    (passwd group : List ℕ) (users : List Passwd) (groups : List Group)
    → IsNumbered hosts site m → slice_get hosts h ≡ Some host
    → passwd_table passwd ≡ Ok host.users → group_table group ≡ Ok host.groups
    → passwd_table (host_users host site m passwd) ≡ Ok users
    → group_table (host_groups site m.groups group) ≡ Ok groups
    → NamesAreKept site m h host users groups
