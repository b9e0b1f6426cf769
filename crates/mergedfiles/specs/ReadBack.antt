-- What the merged passwd and the merged group say when they are read, by the definitions by which
-- every account file is read.
-- Source: passwd(5) and group(5), DESCRIPTION (one account a line, its fields between colons);
-- whose fields count is this project's own rule.
use Rattle.std.specs.Prelude.{◌≡◌, ◌==◌, ℕ, ◌+◌, ◌<◌, ◌≤◌, false, List, length, map, All, Some}
use Rattle.std.specs.Prelude.{Result, Ok, count_by, slice_get, slice_index_or}
use Rattle.std.specs.List.{join_with_byte}
use Rattle.idtext.specs.declared.faults.TextFault.{TextFault}
use Rattle.idtext.specs.Names.{is_skipped}
use Rattle.idtext.specs.Pieces.{fields_of, lines}
use Rattle.idtext.specs.Words.{most_line_bytes}
use Rattle.accounts.specs.Laws.{AreDistinct}
use Rattle.accounts.specs.Lines.{is_compat, most_lines}
use Rattle.accounts.specs.Rows.{Passwd, Group, passwd_from, group_from, members_of}
use Rattle.accounts.specs.Tables.{passwd_table, group_table}
use Rattle.hosts_join.specs.Accounts.{Accounts, place_of}
use Rattle.hosts_join.specs.Checks.{primary_checked}
use Rattle.hosts_join.specs.Kinds.{user_at, group_at}
use Rattle.hosts_join.specs.Laws.{HasLawfulAccounts}
use Rattle.hosts_join.specs.Site.{Joined}
use Rattle.hosts_join.specs.declared.host.Host.{Host}
use Rattle.ownership.specs.Mappings.{IsMapping, number_at}
use Rattle.ownership.specs.declared.mapping.Mappings.{Mappings}
use Rattle.mergedfiles.specs.Rows.{UserRow, GroupRow, users_named, groups_named, first_of}
use Rattle.mergedfiles.specs.Rows.{joined_users}
use Rattle.mergedfiles.specs.Texts.{merged_users, merged_groups}
use Rattle.mergedfiles.specs.Together.{AreJoined}

-- ---- the site that is merged

-- A host that was read: its tables are those of a passwd and a group, and its users' primary groups
-- are there.
pub record WasRead (host : Host) : Type 0 where
  pub passwd : List ℕ
  pub users : passwd_table passwd ≡ Ok host.users
  pub group : List ℕ
  pub groups : group_table group ≡ Ok host.groups
  pub primary : primary_checked host ≡ Ok tt

-- A site that was joined from hosts that were read, and for each of its users and groups a number
-- of its own, one that an account may have.
pub record IsNumbered (hosts : List Host) (site : Joined) (m : Mappings) : Type 0 where
  pub read : All WasRead hosts
  pub joined : AreJoined hosts site
  pub lawful : HasLawfulAccounts site
  pub users : IsMapping m.users
  pub for_users : length m.users ≡ length site.users.names
  pub groups : IsMapping m.groups
  pub for_groups : length m.groups ≡ length site.groups.names

-- the name is one of the accounts, and this is its number
abbrev pub HasNumber : Accounts → List ℕ → List ℕ → ℕ → Type 0
HasNumber a m name number = (i : ℕ) × (place_of a.names name ≡ Some i) × (number_at m i ≡ number)

-- no name of the accounts has the number
abbrev pub IsGivenToNone : Accounts → List ℕ → ℕ → Type 0
IsGivenToNone a m number = (name : List ℕ) → HasNumber a m name number → ⊥

-- ---- the rows that a text is read as

-- The line with number n is kept, and its fields are those of the row.
-- from: the row that the fields of a line make
pub record IsRowLine {Row : Type 0} (from : ℕ → List (List ℕ) → Result Row TextFault) (n : ℕ)
    (line : List ℕ) (row : Row) : Type 0 where
  pub kept : is_skipped line ≡ false
  pub not_compat : is_compat line ≡ false
  pub read : from n (fields_of line) ≡ Ok row

-- the text has no more lines than an account file may have, and none that is too long
pub record KeepsLimits (text : List ℕ) : Type 0 where
  pub few_lines : length (lines text) ≤ most_lines
  pub short_lines : All (λ line. length line ≤ most_line_bytes) (lines text)

-- Each line by itself is read as the row at its place; and where the text keeps the limits of an
-- account file, its table is exactly these rows. There are as many newlines as rows, so that the
-- last line has its newline too.
-- table: the table of a text
pub record ReadsAs {Row : Type 0} (from : ℕ → List (List ℕ) → Result Row TextFault)
    (table : List ℕ → Result (List Row) TextFault) (text : List ℕ) (rows : List Row) : Type 0 where
  pub as_many : length (lines text) ≡ length rows
  pub newlines : count_by (λ b. b == 10) text ≡ length rows
  pub each_line : (k : ℕ) (line : List ℕ) (row : Row) → slice_get (lines text) k ≡ Some line
      → slice_get rows k ≡ Some row → IsRowLine from (k + 1) line row
  pub whole : KeepsLimits text → table text ≡ Ok rows

-- each number is greater than those before it
abbrev pub Ascend : List ℕ → Type 0
Ascend numbers =
    (j k : ℕ) → j < k → k < length numbers → slice_index_or numbers j 0 < slice_index_or numbers k 0

-- ---- the merged passwd

-- A row of the merged passwd has the new number of its user and, as its gid, the new number of the
-- primary group that the first host with this user gives it, by that group's name. All else is as
-- on that host.
pub record IsMergedUser (hosts : List Host) (site : Joined) (m : Mappings)
    (row : Passwd) : Type 0 where
  pub uid : HasNumber site.users m.users row.name row.uid
  pub first : UserRow
  pub first_is : first_of (users_named row.name hosts) ≡ Some first
  pub group : List ℕ
  pub primary : group_at first.host.groups first.row.gid ≡ Some group
  pub gid : HasNumber site.groups m.groups group row.gid
  pub password : row.password ≡ first.row.password
  pub comment : row.comment ≡ first.row.comment
  pub home : row.home ≡ first.row.home
  pub shell : row.shell ≡ first.row.shell

-- The merged passwd has exactly one row for each user name, and no other; the rows ascend by uid,
-- so that no two have one. It names each new number as its user.
-- IsUser: what each row is
pub record AreMergedUsers (IsUser : Passwd → Type 0) (site : Joined) (m : Mappings)
    (rows : List Passwd) : Type 0 where
  pub each_row : All IsUser rows
  pub once : AreDistinct (map (λ row. row.name) rows)
  pub ascending : Ascend (map (λ row. row.uid) rows)
  pub each_name : (name : List ℕ) (number : ℕ) → HasNumber site.users m.users name number
      → user_at rows number ≡ Some name

pub record IsMergedPasswd (hosts : List Host) (site : Joined) (m : Mappings)
    (text : List ℕ) : Type 0 where
  pub rows : List Passwd
  pub reads : ReadsAs passwd_from passwd_table text rows
  pub say : AreMergedUsers (IsMergedUser hosts site m) site m rows

abbrev pub MergedPasswdReadsBack : Type 0
MergedPasswdReadsBack =
    (hosts : List Host) (site : Joined) (m : Mappings) → IsNumbered hosts site m
    → IsMergedPasswd hosts site m (merged_users hosts site m)

-- ---- the merged group

-- A row of the merged group has the new number of its group, the password of the first host with
-- this group, and the users that it has on any host, in the order of the hosts, each where it
-- appears first, with one comma between each two and no other.
pub record IsMergedGroup (hosts : List Host) (site : Joined) (m : Mappings)
    (row : Group) : Type 0 where
  pub gid : HasNumber site.groups m.groups row.name row.gid
  pub first : GroupRow
  pub first_is : first_of (groups_named row.name hosts) ≡ Some first
  pub password : row.password ≡ first.row.password
  pub list : row.members ≡ join_with_byte 44 (joined_users (groups_named row.name hosts))
  pub members : members_of row.members ≡ joined_users (groups_named row.name hosts)

-- The merged group has exactly one row for each group name, and no other; the rows ascend by gid,
-- so that no two have one. It names each new number as its group.
pub record AreMergedGroups (hosts : List Host) (site : Joined) (m : Mappings)
    (rows : List Group) : Type 0 where
  pub each_row : All (IsMergedGroup hosts site m) rows
  pub once : AreDistinct (map (λ row. row.name) rows)
  pub ascending : Ascend (map (λ row. row.gid) rows)
  pub each_name : (name : List ℕ) (number : ℕ) → HasNumber site.groups m.groups name number
      → group_at rows number ≡ Some name

pub record IsMergedGroupFile (hosts : List Host) (site : Joined) (m : Mappings)
    (text : List ℕ) : Type 0 where
  pub rows : List Group
  pub reads : ReadsAs group_from group_table text rows
  pub say : AreMergedGroups hosts site m rows

abbrev pub MergedGroupReadsBack : Type 0
MergedGroupReadsBack =
    (hosts : List Host) (site : Joined) (m : Mappings) → IsNumbered hosts site m
    → IsMergedGroupFile hosts site m (merged_groups hosts site m.groups)
