-- What a site is before its inventories are read, in words of the texts: of passwd, group and
-- login.defs of each host, of the keep text and of the pins text.
-- Source: passwd(5), group(5) and login.defs(5) of the shadow suite; what stays, and what is
-- joined, is this project's own rule.
use Rattle.std.specs.Prelude.{◌≡◌, ◌↔◌, ℕ, true, List, Ok, All, Any}
use Rattle.std.specs.List.{AllZip, Contains}
use Rattle.accounts.specs.Rows.{Passwd, Group}
use Rattle.accounts.specs.Tables.{passwd_table, group_table}
use Rattle.logindefs.specs.Ranges.{ranges_of}
use Rattle.hosts_join.specs.Hosts.{spares_group, spares_user}
use Rattle.hosts_join.specs.Kinds.{group_rows, user_rows}
use Rattle.hosts_join.specs.PinPairs.{PinPairs}
use Rattle.hosts_join.specs.PinsText.{pins_of}
use Rattle.hosts_join.specs.Rules.{is_name, is_reserved}
use Rattle.hosts_join.specs.Site.{joined_site}
use Rattle.hosts_join.specs.declared.host.Host.{Host}
use Rattle.hosts_join.specs.declared.texts.HostText.{HostText}
use Rattle.keep_text.specs.KeepTexts.{keep_of}
use Rattle.keep_text.specs.declared.keep_text.KeepText.{KeepText}
use Rattle.kept_accounts.specs.Laws.{NumberStays, Stays}
use Rattle.kept_accounts.specs.Reserving.{UnownedNumbers}
use Rattle.kept_accounts.specs.Reserving as reserving
use Rattle.unify_texts.specs.Maps.{map_of}
use Rattle.site_tables.specs.Mapped.{BegunCost, cost_begun}
use Rattle.site_tables.specs.Hosts.{host_of}
use Rattle.site_tables.specs.MapLaws.{IsSomeGroup, IsSomeUser, IsWholeMap}
use Rattle.site_tables.specs.Begun.{BegunSite, site_begun}
use Rattle.site_tables.specs.Sparing.{SparesNothing}
use Rattle.site_tables.specs.declared.host.Loaded.{Loaded}
use Rattle.site_tables.specs.declared.rules.KeepRules.{KeepRules}
use Rattle.site_tables.specs.declared.rules.SiteRules.{SiteRules}

-- ---- a host in full

-- a host with its name, and its ranges and its tables as its texts tell them
pub record IsOfText (text : HostText) (host : Host) : Type 0 where
  pub named : host.name ≡ text.name
  pub ranges : ranges_of text.logindefs ≡ Ok host.ranges
  pub users : passwd_table text.passwd ≡ Ok host.users
  pub groups : group_table text.group ≡ Ok host.groups

-- each user's gid is that of a group of the host
abbrev pub HavePrimaryGroups : Host → Type 0
HavePrimaryGroups host = All (λ user. Any (λ group. group.gid ≡ user.gid) host.groups) host.users

-- such a host, where nothing stays, with the text of its inventory
pub record IsLoadedFrom (text : HostText) (loaded : Loaded) : Type 0 where
  pub host : IsOfText text loaded.host
  pub primary : HavePrimaryGroups loaded.host
  pub spares : SparesNothing loaded.host
  pub inventory : loaded.mtree ≡ text.mtree

-- the texts of a host are accepted exactly so
abbrev pub HostsAreOfTheirTexts : Type 0
HostsAreOfTheirTexts = (text : HostText) (loaded : Loaded)
    → (host_of text ≡ Ok loaded) ↔ IsLoadedFrom text loaded

-- ---- what stays of it

-- the user stays as it is, by a keep text, on these hosts in full
abbrev pub UserStays : KeepText → List Host → List ℕ → Type 0
UserStays keep full name = Stays keep.users (λ host. user_rows host.users) full name

-- the group stays as it is
abbrev pub GroupStays : KeepText → List Host → List ℕ → Type 0
GroupStays keep full name = Stays keep.groups (λ host. group_rows host.groups) full name

-- a user of some host stays as it is, of these hosts in full
abbrev pub SomeUserStays : KeepText → List Host → Type 0
SomeUserStays keep full = Any (λ host. Any (λ row. UserStays keep full row.name) host.users) full

-- a group of some host stays as it is
abbrev pub SomeGroupStays : KeepText → List Host → Type 0
SomeGroupStays keep full =
    Any (λ host. Any (λ row. GroupStays keep full row.name) host.groups) full

-- a user of the table that stays has the uid
abbrev pub HasStayingUser : KeepText → List Host → ℕ → List Passwd → Type 0
HasStayingUser keep full uid rows =
    Any (λ row. UserStays keep full row.name × (row.uid ≡ uid)) rows

-- a group of the table that stays has the gid
abbrev pub HasStayingGroup : KeepText → List Host → ℕ → List Group → Type 0
HasStayingGroup keep full gid rows =
    Any (λ row. GroupStays keep full row.name × (row.gid ≡ gid)) rows

-- What is joined of a host: its rows whose names do not stay. It spares exactly the numbers that
-- stay on it: those of listed ranges, those of its names that stay, and, where the text says so,
-- those that its files have without an account.
-- was: the host in full, one of these
pub record IsLeftOf (keep : KeepText) (full : List Host) (unowned : UnownedNumbers)
    (was host : Host) : Type 0 where
  pub named : host.name ≡ was.name
  pub ranges : host.ranges ≡ was.ranges
  pub users : (row : Passwd) → Contains host.users row
      ↔ (Contains was.users row × (UserStays keep full row.name → ⊥))
  pub groups : (row : Group) → Contains host.groups row
      ↔ (Contains was.groups row × (GroupStays keep full row.name → ⊥))
  pub spared_users : (uid : ℕ) → (spares_user host uid ≡ true)
      ↔ NumberStays keep.users uid (HasStayingUser keep full uid was.users)
      (Any (λ found. (found.host ≡ was.name) × (found.number ≡ uid)) unowned.users)
  pub spared_groups : (gid : ℕ) → (spares_group host gid ≡ true)
      ↔ NumberStays keep.groups gid (HasStayingGroup keep full gid was.groups)
      (Any (λ found. (found.host ≡ was.name) × (found.number ≡ gid)) unowned.groups)

-- ---- the hosts of a site

-- what is joined of the hosts with these texts, by the keep text and the numbers that files have
-- without an account
pub record AreOfTexts (texts : List HostText) (rules : KeepRules) (hosts : List Host) : Type 0 where
  pub keep : KeepText
  pub keep_is : keep_of rules.text ≡ Ok keep
  pub full : List Host
  pub full_are : AllZip IsOfText texts full
  pub left : AllZip (IsLeftOf keep full rules.unowned) full hosts

-- The accounts are the join of these hosts, by the pins of the pins text. Their names are those of
-- the hosts in full that do not stay. Exactly the numbers that stay on some host are reserved, by
-- whom and in which order kept_accounts has it.
pub record IsOfTexts (texts : List HostText) (rules : SiteRules) (begun : BegunSite) : Type 0 where
  pub hosts : AreOfTexts texts rules.keep begun.hosts
  pub pins : PinPairs
  pub pins_are : pins_of rules.pins ≡ Ok pins
  pub joined : joined_site begun.hosts (record pins {
    reserved_users = begun.joined.users.reserved;
    reserved_groups = begun.joined.groups.reserved;
  }) ≡ Ok begun.joined
  pub users : (name : List ℕ) → (is_name begun.joined.users.names name ≡ true)
      ↔ (IsSomeUser hosts.full name × (UserStays hosts.keep hosts.full name → ⊥))
  pub groups : (name : List ℕ) → (is_name begun.joined.groups.names name ≡ true)
      ↔ (IsSomeGroup hosts.full name × (GroupStays hosts.keep hosts.full name → ⊥))
  pub reserved_users : (uid : ℕ) → (is_reserved begun.joined.users.reserved uid ≡ true)
      ↔ NumberStays hosts.keep.users uid
      (Any (λ host. HasStayingUser hosts.keep hosts.full uid host.users) hosts.full)
      (Any (λ found. found.number ≡ uid) rules.keep.unowned.users)
  pub reserved_groups : (gid : ℕ) → (is_reserved begun.joined.groups.reserved gid ≡ true)
      ↔ NumberStays hosts.keep.groups gid
      (Any (λ host. HasStayingGroup hosts.keep hosts.full gid host.groups) hosts.full)
      (Any (λ found. found.number ≡ gid) rules.keep.unowned.groups)
  pub users_are : begun.joined.users.reserved
      ≡ reserving.reserved_users hosts.keep hosts.full rules.keep.unowned.users
  pub groups_are : begun.joined.groups.reserved
      ≡ reserving.reserved_groups hosts.keep hosts.full rules.keep.unowned.groups

-- what a merge and a check start from
abbrev pub BegunSitesAreOfTexts : Type 0
BegunSitesAreOfTexts = (texts : List HostText) (rules : SiteRules) (begun : BegunSite)
    → site_begun texts rules ≡ Ok begun → IsOfTexts texts rules begun

-- the same hosts, with the map of the map text, which has exactly their names
pub record IsCostOfTexts (texts : List HostText) (keep : KeepRules) (map_text : List ℕ)
    (begun : BegunCost) : Type 0 where
  pub hosts : AreOfTexts texts keep begun.hosts
  pub map : map_of map_text ≡ Ok begun.names
  pub whole : IsWholeMap begun.names begun.hosts

-- what a count starts from
abbrev pub BegunCountsAreOfTexts : Type 0
BegunCountsAreOfTexts =
    (texts : List HostText) (keep : KeepRules) (map_text : List ℕ) (begun : BegunCost)
    → cost_begun texts keep map_text ≡ Ok begun → IsCostOfTexts texts keep map_text begun
