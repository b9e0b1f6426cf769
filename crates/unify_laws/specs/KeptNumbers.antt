-- Numbers that stay on their hosts, which a map gives to no name.
-- Source: this project's own rule.
use Rattle.std.specs.Prelude.{◌≡◌, ℕ, Bool, true, List, map, length, Some, None, Ok, slice_get, All}
use Rattle.idtext.specs.First.{each}
use Rattle.logindefs.specs.declared.ranges.IdRange.{IdRange}
use Rattle.mtree_inv.specs.declared.entry.Entry.{Entry}
use Rattle.hosts_join.specs.Accounts.{Pair}
use Rattle.hosts_join.specs.Kinds.{group_at, group_rows, user_at, user_rows}
use Rattle.hosts_join.specs.Pairs.{number_of}
use Rattle.hosts_join.specs.RangeLists.{lies_in_some}
use Rattle.hosts_join.specs.declared.host.Host.{Host}
use Rattle.hosts_join.specs.declared.texts.HostText.{HostText}
use Rattle.keep_text.specs.KeepTexts.{keep_of}
use Rattle.keep_text.specs.declared.keep_text.KeepText.{KeepText}
use Rattle.kept_accounts.specs.Keeping.{is_kept_group, is_kept_user}
use Rattle.kept_accounts.specs.Laws.{HasNumber}
use Rattle.ownership.specs.declared.mapping.Mappings.{Mappings}
use Rattle.unify_texts.specs.declared.map_text.MapText.{MapText}
use Rattle.site_tables.specs.declared.host.Loaded.{Loaded}
use Rattle.site_tables.specs.declared.rules.SiteRules.{SiteRules}
use Rattle.unify.specs.Count.{site_of}
use Rattle.site_tables.specs.Hosts.{host_of}
use Rattle.site_tables.specs.Loading.{loaded_from}
use Rattle.site_tables.specs.Others.{keep_read}
use Rattle.site_tables.specs.Begun.{BegunSite, site_begun}
use Rattle.site_tables.specs.Survey.{found_on, inventory_of, surveyed_hosts}
use Rattle.unify_laws.specs.Headline.{HaveOneNumberEach}

-- by the pairs of a map no name has the number
abbrev pub HasNoName : List Pair → ℕ → Type 0
HasNoName pairs number = (name : List ℕ) → number_of pairs name ≡ Some number → ⊥

-- ---- what is listed, and kept names

-- No name is given a number that lies in a listed range, nor one that a kept name has on a host.
-- is_kept: whether a name is kept
-- rows_on: the names of a host with their numbers
pub record LeaveKeptNumbers (pairs : List Pair) (ranges : List IdRange) (is_kept : List ℕ → Bool)
    (rows_on : Host → List (List ℕ × ℕ)) (hosts : List Host) : Type 0 where
  pub listed : (number : ℕ) → lies_in_some ranges number ≡ true → HasNoName pairs number
  pub of_kept_names : (kept : List ℕ) (number : ℕ) → is_kept kept ≡ true
      → HasNumber rows_on hosts kept number → HasNoName pairs number

-- So it is of users and of groups, by the keep text, on the hosts as their texts tell them, with
-- all their rows.
pub record LeavesWhatStays (texts : List HostText) (keep_text : List ℕ) (given : MapText) : Type 0
  where
    pub keep : KeepText
    pub keep_is : keep_of keep_text ≡ Ok keep
    pub loaded : List Loaded
    pub loaded_are : each host_of texts ≡ Ok loaded
    pub users : LeaveKeptNumbers given.users keep.users.ranges
        (is_kept_user keep (map (λ l. l.host) loaded)) (λ host. user_rows host.users)
        (map (λ l. l.host) loaded)
    pub groups : LeaveKeptNumbers given.groups keep.groups.ranges
        (is_kept_group keep (map (λ l. l.host) loaded)) (λ host. group_rows host.groups)
        (map (λ l. l.host) loaded)

-- so it is of every map that gives each name of the site one number, as the map of a merge does
abbrev pub NoKeptNumberIsGiven : Type 0
NoKeptNumberIsGiven =
    (texts : List HostText) (rules : SiteRules) (begun : BegunSite) (m : Mappings)
    (given : MapText) → site_begun texts rules ≡ Ok begun
    → HaveOneNumberEach begun.joined.users m.users given.users
    → HaveOneNumberEach begun.joined.groups m.groups given.groups
    → LeavesWhatStays texts rules.keep.text given

-- ---- files without an account

-- no name is given the uid of a file that no user of its host has
-- full: the host with all its rows
abbrev pub LeavesItsUid : MapText → Host → Entry → Type 0
LeavesItsUid given full file =
    user_at full.users file.uid ≡ None → HasNoName given.users file.uid

-- nor its gid, that no group of its host has
abbrev pub LeavesItsGid : MapText → Host → Entry → Type 0
LeavesItsGid given full file =
    group_at full.groups file.gid ≡ None → HasNoName given.groups file.gid

-- So it is of each file of inventories that are accepted, as those are which a merge reads.
abbrev pub NoUnownedNumberIsGiven : Type 0
NoUnownedNumberIsGiven =
    (texts : List HostText) (rules : SiteRules) (begun : BegunSite) (inventories : List (List ℕ))
    (read : List (Host × List Entry)) (m : Mappings) (given : MapText)
    → site_begun texts rules ≡ Ok begun → length inventories ≡ length begun.hosts
    → each site_of (loaded_from begun.hosts inventories) ≡ Ok read
    → HaveOneNumberEach begun.joined.users m.users given.users
    → HaveOneNumberEach begun.joined.groups m.groups given.groups
    → (h : ℕ) (text : HostText) (loaded : Loaded) (host : Host) (files : List Entry)
    → slice_get texts h ≡ Some text → host_of text ≡ Ok loaded
    → slice_get read h ≡ Some (host, files)
    → All (LeavesItsUid given loaded.host) files × All (LeavesItsGid given loaded.host) files

-- Where numbers without an account stay of a kind, so it is of each file of the inventories that
-- were surveyed for these, too.
abbrev pub NoSurveyedNumberIsGiven : Type 0
NoSurveyedNumberIsGiven =
    (texts : List HostText) (rules : SiteRules) (keep : KeepText) (hosts : List Host)
    (inventories : List (List ℕ)) (begun : BegunSite) (m : Mappings) (given : MapText)
    → keep_of rules.keep.text ≡ Ok keep
    → surveyed_hosts texts (keep_read rules.keep.text) ≡ Ok hosts
    → found_on hosts inventories ≡ Ok rules.keep.unowned
    → site_begun texts rules ≡ Ok begun
    → HaveOneNumberEach begun.joined.users m.users given.users
    → HaveOneNumberEach begun.joined.groups m.groups given.groups
    → (h : ℕ) (text : HostText) (loaded : Loaded) (inventory : List ℕ) (files : List Entry)
    → slice_get texts h ≡ Some text → host_of text ≡ Ok loaded
    → slice_get inventories h ≡ Some inventory → inventory_of loaded.host inventory ≡ Ok files
    → (keep.users.unowned ≡ true → All (LeavesItsUid given loaded.host) files)
    × (keep.groups.unowned ≡ true → All (LeavesItsGid given loaded.host) files)
