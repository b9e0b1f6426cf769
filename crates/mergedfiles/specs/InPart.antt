-- What the merged passwd and the merged group say when they are read, where not all rows of each
-- host were joined.
-- Source: passwd(5) and group(5), DESCRIPTION (one account a line, its fields between colons);
-- whose fields count is this project's own rule.
use Rattle.std.specs.Prelude.{◌≡◌, ℕ, List, length, All, Contains, MatchOption, Some, Ok}
use Rattle.accounts.specs.Rows.{Passwd, Group, passwd_from}
use Rattle.accounts.specs.Tables.{passwd_table, group_table}
use Rattle.hosts_join.specs.Kinds.{group_at}
use Rattle.hosts_join.specs.Laws.{HasLawfulAccounts, KnowsItsHosts}
use Rattle.hosts_join.specs.Site.{Joined}
use Rattle.hosts_join.specs.declared.host.Host.{Host}
use Rattle.ownership.specs.Mappings.{IsMapping}
use Rattle.ownership.specs.declared.mapping.Mappings.{Mappings}
use Rattle.mergedfiles.specs.ReadBack.{AreMergedUsers, HasNumber, IsMergedGroupFile, IsNumbered}
use Rattle.mergedfiles.specs.ReadBack.{ReadsAs}
use Rattle.mergedfiles.specs.Rows.{UserRow, users_named, first_of}
use Rattle.mergedfiles.specs.Texts.{merged_users, merged_groups}
use Rattle.mergedfiles.specs.Together.{AreJoined}

-- a host whose rows are some of those of a passwd and of a group
pub record WasReadInPart (host : Host) : Type 0 where
  pub passwd : List ℕ
  pub all_users : List Passwd
  pub users : passwd_table passwd ≡ Ok all_users
  pub each_user : All (Contains all_users) host.users
  pub group : List ℕ
  pub all_groups : List Group
  pub groups : group_table group ≡ Ok all_groups
  pub each_group : All (Contains all_groups) host.groups

-- A site that was joined from such hosts and knows them, and for each of its users and groups a
-- number of its own, one that an account may have.
pub record IsNumberedInPart (hosts : List Host) (site : Joined) (m : Mappings) : Type 0 where
  pub read : All WasReadInPart hosts
  pub joined : AreJoined hosts site
  pub knows : KnowsItsHosts hosts site
  pub lawful : HasLawfulAccounts site
  pub users : IsMapping m.users
  pub for_users : length m.users ≡ length site.users.names
  pub groups : IsMapping m.groups
  pub for_groups : length m.groups ≡ length site.groups.names

-- so is a site that was joined from all rows of hosts that were read
abbrev pub AllIsInPart : Type 0
AllIsInPart = (hosts : List Host) (site : Joined) (m : Mappings)
    → IsNumbered hosts site m → IsNumberedInPart hosts site m

-- A row of the merged passwd has the new number of its user. Its gid is the new number of the group
-- that was joined with the gid that the first host with this user gives it; where there is none the
-- gid is as on that host, as all else is.
pub record IsMergedUserInPart (hosts : List Host) (site : Joined) (m : Mappings)
    (row : Passwd) : Type 0 where
  pub uid : HasNumber site.users m.users row.name row.uid
  pub first : UserRow
  pub first_is : first_of (users_named row.name hosts) ≡ Some first
  pub gid : MatchOption (group_at first.host.groups first.row.gid) (row.gid ≡ first.row.gid)
      (λ group. HasNumber site.groups m.groups group row.gid)
  pub password : row.password ≡ first.row.password
  pub comment : row.comment ≡ first.row.comment
  pub home : row.home ≡ first.row.home
  pub shell : row.shell ≡ first.row.shell

pub record IsMergedPasswdInPart (hosts : List Host) (site : Joined) (m : Mappings)
    (text : List ℕ) : Type 0 where
  pub rows : List Passwd
  pub reads : ReadsAs passwd_from passwd_table text rows
  pub say : AreMergedUsers (IsMergedUserInPart hosts site m) site m rows

abbrev pub PasswdInPartReadsBack : Type 0
PasswdInPartReadsBack = (hosts : List Host) (site : Joined) (m : Mappings)
    → IsNumberedInPart hosts site m
    → IsMergedPasswdInPart hosts site m (merged_users hosts site m)

-- the merged group is as where all was joined
abbrev pub GroupInPartReadsBack : Type 0
GroupInPartReadsBack = (hosts : List Host) (site : Joined) (m : Mappings)
    → IsNumberedInPart hosts site m
    → IsMergedGroupFile hosts site m (merged_groups hosts site m.groups)
