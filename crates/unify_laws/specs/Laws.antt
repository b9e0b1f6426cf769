-- Laws of every site that was read.
-- Source: this project's own rule.
use Rattle.std.specs.Prelude.{◌≡◌, ◌↔◌, ℕ, true, List, [], map, Some, Result, Ok}
use Rattle.std.specs.Prelude.{is_some, slice_get}
use Rattle.std.specs.List.{All}
use Rattle.idtext.specs.First.{◌>>=◌, each}
use Rattle.mtree_inv.specs.declared.entry.Entry.{Entry}
use Rattle.hosts_join.specs.Hosts.{allows_gid, allows_uid}
use Rattle.hosts_join.specs.PinPairs.{no_pins}
use Rattle.hosts_join.specs.PinsText.{pins_of}
use Rattle.hosts_join.specs.Checks.{hosts_checked}
use Rattle.hosts_join.specs.Kinds.{user_at, group_at}
use Rattle.hosts_join.specs.Laws.{KnowsHost}
use Rattle.hosts_join.specs.Site.{Joined, joined_site}
use Rattle.hosts_join.specs.declared.host.Host.{Host}
use Rattle.hosts_join.specs.declared.texts.HostText.{HostText}
use Rattle.keep_text.specs.KeepTexts.{keep_of}
use Rattle.keep_text.specs.declared.keep_text.KeepText.{KeepText}
use Rattle.kept_accounts.specs.Reserving.{UnownedNumbers}
use Rattle.ownership.specs.Owned.{HaveOwners}
use Rattle.ownership.specs.declared.mapping.Mappings.{Mappings}
use Rattle.unify_texts.specs.declared.fault.Fault.{Fault}
use Rattle.unify_texts.specs.declared.map_text.MapText.{MapText}
use Rattle.unify_texts.specs.Maps.{map_of}
use Rattle.unify_texts.specs.WrittenMap.{SayMapping}
use Rattle.unify.specs.declared.counting.Cost.{Cost}
use Rattle.site_tables.specs.declared.rules.KeepRules.{KeepRules}
use Rattle.site_tables.specs.declared.rules.SiteRules.{SiteRules}
use Rattle.unify.specs.Cost.{cost_of}
use Rattle.site_tables.specs.Mapped.{names_checked}
use Rattle.unify.specs.Count.{count_of, site_of, total_of}
use Rattle.site_tables.specs.Hosts.{host_of}
use Rattle.site_tables.specs.Loading.{loaded_from}
use Rattle.site_tables.specs.Others.{Others, keeping_nothing, others_loaded, reserving}
use Rattle.unify.specs.Outcomes.{cost_in, hosts_in}
use Rattle.site_tables.specs.Begun.{site_begun}
use Rattle.site_tables.specs.Sparing.{SparesNothing}
use Rattle.site_tables.specs.Told.{in_pins, in_site}
use Rattle.unify.specs.Reading.{WholeSite, files_of_site, site_read}
use Rattle.unify.specs.Whole.{IsWhole}
use Rattle.site_tables.specs.Survey.{inventory_of, surveyed}

-- a uid and a gid have a user and a group by the host's own tables
pub record HaveAccounts (host : Host) (uid gid : ℕ) : Type 0 where
  pub user : is_some (user_at host.users uid) ≡ true
  pub group : is_some (group_at host.groups gid) ≡ true

abbrev pub ReadSitesAreWhole : Type 0
ReadSitesAreWhole =
    (texts : List HostText) (rules : SiteRules) (site : WholeSite)
    → site_read texts rules ≡ Ok site → IsWhole site

-- a file has its owners among the accounts over all hosts exactly where it has them by its host's
-- own tables
abbrev pub OwnersAgree : Type 0
OwnersAgree =
    (joined : Joined) (h : ℕ) (host : Host) (uid gid : ℕ) → KnowsHost joined h host
    → HaveOwners joined h uid gid ↔ HaveAccounts host uid gid

-- each file has a user and a group, by its host's own tables and as well by the accounts over all
-- hosts
pub record HasAccountsForAll (site : WholeSite) : Type 0 where
  pub by_tables : (h : ℕ) (host : Host) (files : List Entry)
      → slice_get site.hosts h ≡ Some (host, files)
      → All (λ f. HaveAccounts host f.uid f.gid) files
  pub over_all_hosts :
      All (λ f. HaveOwners site.joined f.host f.uid f.gid) (files_of_site site)

-- so it is where no host spares a number
abbrev pub NothingSparedAllOwned : Type 0
NothingSparedAllOwned = (site : WholeSite) → IsWhole site
    → All SparesNothing (hosts_in site) → HasAccountsForAll site

-- and no host does that was read from texts with an empty keep text
abbrev pub ReadHostsSpareNothing : Type 0
ReadHostsSpareNothing = (texts : List HostText) (pins_text : List ℕ) (unowned : UnownedNumbers)
    (site : WholeSite)
    → site_read texts (record { pins = pins_text; keep = keeping_nothing unowned }) ≡ Ok site
    → All SparesNothing (hosts_in site)

-- what the texts of hosts and what is to stay say of a site, where there is no pins text
abbrev pub site_without_pins : List HostText → KeepRules → Result WholeSite Fault
site_without_pins texts keep = do
  listed ← in_site (hosts_checked texts)
  others ← others_loaded texts keep
  joined ← in_site (joined_site others.hosts (reserving others no_pins))
  hosts ← each site_of (loaded_from others.hosts (map (λ t. t.mtree) texts))
  Ok (record { hosts = hosts; joined = joined })

-- an empty pins text is as none
abbrev pub EmptyPinsAreNone : Type 0
EmptyPinsAreNone = (texts : List HostText) (keep : KeepRules)
    → site_read texts (record { pins = []; keep = keep }) ≡ site_without_pins texts keep

-- what the texts of hosts and a pins text say of a site, where there is no keep text
abbrev pub site_without_keep : List HostText → List ℕ → Result WholeSite Fault
site_without_keep texts pins_text = do
  listed ← in_site (hosts_checked texts)
  loaded ← each host_of texts
  pins ← in_pins (pins_of pins_text)
  joined ← in_site (joined_site (map (λ l. l.host) loaded) pins)
  hosts ← each site_of loaded
  Ok (record { hosts = hosts; joined = joined })

-- what a map changes, where there is no keep text
abbrev pub count_without_keep : List HostText → List ℕ → Result Cost Fault
count_without_keep texts map_text = do
  listed ← in_site (hosts_checked texts)
  loaded ← each host_of texts
  pairs ← map_of map_text
  named ← names_checked pairs (map (λ l. l.host) loaded)
  total_of pairs (each site_of loaded)

-- an empty keep text is as none
abbrev pub EmptyKeepIsNone : Type 0
EmptyKeepIsNone = (texts : List HostText) (pins_text : List ℕ) (unowned : UnownedNumbers)
    → site_read texts (record { pins = pins_text; keep = keeping_nothing unowned })
    ≡ site_without_keep texts pins_text

abbrev pub EmptyKeepCountsAll : Type 0
EmptyKeepCountsAll = (texts : List HostText) (unowned : UnownedNumbers) (map_text : List ℕ)
    → count_of texts (keeping_nothing unowned) map_text ≡ count_without_keep texts map_text

-- what the texts of hosts say of a site is what comes before the inventories, and then, host by
-- host, what the inventories say
abbrev pub PassesReadTheSite : Type 0
PassesReadTheSite =
    (texts : List HostText) (rules : SiteRules)
    → site_read texts rules
    ≡ (site_begun texts rules
    >>= λ begun. each site_of (loaded_from begun.hosts (map (λ t. t.mtree) texts))
    >>= λ hosts. Ok (record { hosts = hosts; joined = begun.joined }))

-- the cost of a map, by its pairs and each host's own tables, is the cost of its mappings, by the
-- accounts over all hosts
abbrev pub CostsAgree : Type 0
CostsAgree =
    (site : WholeSite) (m : Mappings) (printed : MapText) → IsWhole site
    → SayMapping site.joined.users m.users printed.users
    → SayMapping site.joined.groups m.groups printed.groups
    → cost_of printed site.hosts ≡ cost_in site m

-- Where numbers without an account stay of a kind, a host allows those of all its files, by the
-- numbers that were found of these.
abbrev pub SurveyedFilesAreAllowed : Type 0
SurveyedFilesAreAllowed =
    (texts : List HostText) (rules : KeepRules) (keep : KeepText) (others : Others)
    → keep_of rules.text ≡ Ok keep → surveyed texts rules.text ≡ Ok rules.unowned
    → others_loaded texts rules ≡ Ok others
    → (h : ℕ) (host : Host) (text : HostText) (files : List Entry)
    → slice_get others.hosts h ≡ Some host → slice_get texts h ≡ Some text
    → inventory_of host text.mtree ≡ Ok files
    → (keep.users.unowned ≡ true → All (λ f. allows_uid host f.uid ≡ true) files)
    × (keep.groups.unowned ≡ true → All (λ f. allows_gid host f.gid ≡ true) files)
