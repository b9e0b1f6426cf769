-- What a count answers, in words of the files, and with which fault it refuses.
-- Source: passwd(5) and group(5) (a file's user and group); what is counted, and the order of
-- faults, is this project's own rule.
use Rattle.std.specs.Prelude.{◌≡◌, ◌↔◌, ℕ, Bool, true, List, map, Some, Ok, Err, count_by, sum_by}
use Rattle.idtext.specs.First.{each}
use Rattle.mtree_inv.specs.declared.entry.Entry.{Entry}
use Rattle.hosts_join.specs.Checks.{hosts_checked}
use Rattle.hosts_join.specs.Kinds.{group_at, user_at}
use Rattle.hosts_join.specs.Pairs.{number_of}
use Rattle.hosts_join.specs.declared.host.Host.{Host}
use Rattle.hosts_join.specs.declared.texts.HostText.{HostText}
use Rattle.keep_text.specs.KeepTexts.{keep_of}
use Rattle.unify_texts.specs.Maps.{map_of}
use Rattle.unify_texts.specs.declared.fault.Fault.{Fault}
use Rattle.unify_texts.specs.declared.map_text.MapText.{MapText}
use Rattle.site_tables.specs.Mapped.{BegunCost, cost_begun, names_checked}
use Rattle.unify.specs.Count.{count_of, site_of}
use Rattle.site_tables.specs.Hosts.{host_of}
use Rattle.site_tables.specs.Loading.{loaded_from}
use Rattle.site_tables.specs.SiteLaws.{IsRefusedOr, hosts_of, joined_of}
use Rattle.site_tables.specs.Told.{in_keep, in_site}
use Rattle.unify.specs.declared.counting.Cost.{Cost}
use Rattle.site_tables.specs.declared.rules.KeepRules.{KeepRules}

-- ---- a cost

-- the host's passwd has a user with the uid of the file, and the map does not give the user this
-- number
abbrev pub ChangesUser : MapText → Host → Entry → Type 0
ChangesUser names host file =
    (user : List ℕ) × (user_at host.users file.uid ≡ Some user)
    × (number_of names.users user ≡ Some file.uid → ⊥)

-- and so of its group and the gid
abbrev pub ChangesGroup : MapText → Host → Entry → Type 0
ChangesGroup names host file =
    (group : List ℕ) × (group_at host.groups file.gid ≡ Some group)
    × (number_of names.groups group ≡ Some file.gid → ⊥)

-- over all hosts so many of their files are changed, by whatever tells which are
abbrev pub ChangesSoMany : (Host → Entry → Type 0) → List (Host × List Entry) → ℕ → Type 0
ChangesSoMany IsChanged sites count = (tells : Host → Entry → Bool)
    → ((host : Host) (file : Entry) → (tells host file ≡ true) ↔ IsChanged host file)
    → count ≡ sum_by (λ site. count_by (tells site.0) site.1) sites

-- What comes before the inventories is taken, and so is the inventory of each host; and the cost
-- is how many files the map changes.
pub record IsCounted (texts : List HostText) (keep : KeepRules) (map_text : List ℕ) (cost : Cost)
    : Type 0 where
  pub begun : BegunCost
  pub begun_is : cost_begun texts keep map_text ≡ Ok begun
  pub sites : List (Host × List Entry)
  pub read : each site_of (loaded_from begun.hosts (map (λ t. t.mtree) texts)) ≡ Ok sites
  pub users : ChangesSoMany (ChangesUser begun.names) sites cost.users
  pub groups : ChangesSoMany (ChangesGroup begun.names) sites cost.groups

abbrev pub ChangedFilesAreCounted : Type 0
ChangedFilesAreCounted =
    (texts : List HostText) (keep : KeepRules) (map_text : List ℕ) (cost : Cost)
    → (count_of texts keep map_text ≡ Ok cost) ↔ IsCounted texts keep map_text cost

-- ---- the first fault

-- the fault of the host list; or of the first host that has one; or of the keep text; or of the
-- map's text; or of its names; or of the first inventory that has one
abbrev pub IsFirstOfCount : List HostText → KeepRules → List ℕ → Fault → Type 0
IsFirstOfCount texts rules map_text fault =
    IsRefusedOr (in_site (hosts_checked texts)) fault (λ listed.
    IsRefusedOr (each host_of texts) fault (λ loaded.
    IsRefusedOr (in_keep (keep_of rules.text)) fault (λ keep.
    IsRefusedOr (map_of map_text) fault (λ names.
    IsRefusedOr (names_checked names (joined_of keep (hosts_of loaded) rules.unowned)) fault
    (λ named. each site_of (loaded_from (joined_of keep (hosts_of loaded) rules.unowned)
    (map (λ t. t.mtree) texts)) ≡ Err fault)))))

abbrev pub FirstFaultsOfCounts : Type 0
FirstFaultsOfCounts =
    (texts : List HostText) (keep : KeepRules) (map_text : List ℕ) (fault : Fault)
    → (count_of texts keep map_text ≡ Err fault) ↔ IsFirstOfCount texts keep map_text fault
