-- Which sites are begun, and which counts, step by step, and which fault is told of the others: the
-- first.
-- Source: this project's own rule.
use Rattle.std.specs.Prelude.{◌≡◌, ◌⊎◌, ◌↔◌, ℕ, List, ◌∷◌, ◌++◌, map, All}
use Rattle.std.specs.Prelude.{Result, Ok, Err}
use Rattle.idtext.specs.First.{each}
use Rattle.hosts_join.specs.Checks.{hosts_checked}
use Rattle.hosts_join.specs.PinPairs.{PinPairs}
use Rattle.hosts_join.specs.PinsText.{pins_of}
use Rattle.hosts_join.specs.Site.{joined_site}
use Rattle.hosts_join.specs.declared.host.Host.{Host}
use Rattle.hosts_join.specs.declared.texts.HostText.{HostText}
use Rattle.keep_text.specs.KeepTexts.{keep_of}
use Rattle.keep_text.specs.declared.keep_text.KeepText.{KeepText}
use Rattle.kept_accounts.specs.Others.{without_kept}
use Rattle.kept_accounts.specs.Reserving.{UnownedNumbers, reserved_groups, reserved_users}
use Rattle.unify_texts.specs.Maps.{map_of}
use Rattle.unify_texts.specs.declared.fault.Fault.{Fault}
use Rattle.unify_texts.specs.declared.fault.Fault.TheVariants.{BadMap}
use Rattle.unify_texts.specs.declared.map_text.MapText.{MapText}
use Rattle.site_tables.specs.Hosts.{host_of}
use Rattle.site_tables.specs.Begun.{BegunSite, site_begun}
use Rattle.site_tables.specs.MapLaws.{IsWholeMap}
use Rattle.site_tables.specs.Mapped.{BegunCost, cost_begun}
use Rattle.site_tables.specs.Told.{in_keep, in_pins, in_site}
use Rattle.site_tables.specs.declared.host.Loaded.{Loaded}
use Rattle.site_tables.specs.declared.rules.KeepRules.{KeepRules}
use Rattle.site_tables.specs.declared.rules.SiteRules.{SiteRules}

-- ---- what is joined

-- hosts in full
abbrev pub hosts_of : List Loaded → List Host
hosts_of loaded = map (λ l. l.host) loaded

-- what is joined of these, by a keep text
abbrev pub joined_of : KeepText → List Host → UnownedNumbers → List Host
joined_of keep full unowned = map (without_kept keep full unowned) full

-- pins, with what the keep text reserves
abbrev pub pins_by : KeepText → List Host → UnownedNumbers → PinPairs → PinPairs
pins_by keep full unowned pins = record pins {
  reserved_users = reserved_users keep full unowned.users;
  reserved_groups = reserved_groups keep full unowned.groups;
}

-- The host list is right, the files of each host but its inventory are taken, and so are the keep
-- text and the pins text; and the accounts are joined of these.
pub record IsBegunFrom (texts : List HostText) (rules : SiteRules) (begun : BegunSite) : Type 0
  where
    pub listed : hosts_checked texts ≡ Ok tt
    pub loaded : List Loaded
    pub loaded_are : each host_of texts ≡ Ok loaded
    pub keep : KeepText
    pub keep_is : keep_of rules.keep.text ≡ Ok keep
    pub pins : PinPairs
    pub pins_are : pins_of rules.pins ≡ Ok pins
    pub hosts : begun.hosts ≡ joined_of keep (hosts_of loaded) rules.keep.unowned
    pub joined : joined_site begun.hosts (pins_by keep (hosts_of loaded) rules.keep.unowned pins)
        ≡ Ok begun.joined

abbrev pub TakenSitesAreBegun : Type 0
TakenSitesAreBegun = (texts : List HostText) (rules : SiteRules) (begun : BegunSite)
    → (site_begun texts rules ≡ Ok begun) ↔ IsBegunFrom texts rules begun

-- ---- the first fault

-- what comes before one of the items is taken, and this one is refused with the fault
-- step: what an item gives
pub record IsOfTheFirst {A B : Type 0} (step : A → Result B Fault) (items : List A) (fault : Fault)
    : Type 0 where
  pub earlier : List A
  pub item : A
  pub later : List A
  pub items_are : items ≡ earlier ++ item ∷ later
  pub taken : All (λ x. (y : B) × (step x ≡ Ok y)) earlier
  pub refused : step item ≡ Err fault

-- of hosts one after the other the fault of the first that has one is told
abbrev pub FirstFaultsOfHosts : Type 0
FirstFaultsOfHosts = (texts : List HostText) (fault : Fault)
    → (each host_of texts ≡ Err fault) ↔ IsOfTheFirst host_of texts fault

-- the step is refused with the fault, or it is taken, and then it is so of what it gives
abbrev pub IsRefusedOr : {X : Type 0} → Result X Fault → Fault → (X → Type 0) → Type 0
IsRefusedOr {X} step fault Then = (step ≡ Err fault) ⊎ ((x : X) × (step ≡ Ok x) × Then x)

-- the fault of the host list; or of the first host that has one; or of the keep text; or of the
-- pins text; or of the join
abbrev pub IsFirstOfSite : List HostText → SiteRules → Fault → Type 0
IsFirstOfSite texts rules fault =
    IsRefusedOr (in_site (hosts_checked texts)) fault (λ listed.
    IsRefusedOr (each host_of texts) fault (λ loaded.
    IsRefusedOr (in_keep (keep_of rules.keep.text)) fault (λ keep.
    IsRefusedOr (in_pins (pins_of rules.pins)) fault (λ pins.
    in_site (joined_site (joined_of keep (hosts_of loaded) rules.keep.unowned)
    (pins_by keep (hosts_of loaded) rules.keep.unowned pins)) ≡ Err fault))))

abbrev pub FirstFaultsOfSites : Type 0
FirstFaultsOfSites = (texts : List HostText) (rules : SiteRules) (fault : Fault)
    → (site_begun texts rules ≡ Err fault) ↔ IsFirstOfSite texts rules fault

-- ---- a count

-- The host list is right, the files of each host but its inventory are taken, and so are the keep
-- text and the map text; and the map has exactly the names of what is counted of these hosts.
pub record IsCountBegunFrom (texts : List HostText) (rules : KeepRules) (map_text : List ℕ)
    (begun : BegunCost) : Type 0 where
  pub listed : hosts_checked texts ≡ Ok tt
  pub loaded : List Loaded
  pub loaded_are : each host_of texts ≡ Ok loaded
  pub keep : KeepText
  pub keep_is : keep_of rules.text ≡ Ok keep
  pub map_is : map_of map_text ≡ Ok begun.names
  pub hosts : begun.hosts ≡ joined_of keep (hosts_of loaded) rules.unowned
  pub whole : IsWholeMap begun.names begun.hosts

abbrev pub TakenCountsAreBegun : Type 0
TakenCountsAreBegun =
    (texts : List HostText) (rules : KeepRules) (map_text : List ℕ) (begun : BegunCost)
    → (cost_begun texts rules map_text ≡ Ok begun) ↔ IsCountBegunFrom texts rules map_text begun

-- the map does not have exactly the names of the hosts, which is told of it in the whole
abbrev pub IsNotWhole : MapText → List Host → Fault → Type 0
IsNotWhole names hosts fault = (fault ≡ BadMap 0) × (IsWholeMap names hosts → ⊥)

-- the fault of the host list; or of the first host that has one; or of the keep text; or of the
-- map's text; or of its names
abbrev pub IsFirstBeforeCount : List HostText → KeepRules → List ℕ → Fault → Type 0
IsFirstBeforeCount texts rules map_text fault =
    IsRefusedOr (in_site (hosts_checked texts)) fault (λ listed.
    IsRefusedOr (each host_of texts) fault (λ loaded.
    IsRefusedOr (in_keep (keep_of rules.text)) fault (λ keep.
    IsRefusedOr (map_of map_text) fault (λ names.
    IsNotWhole names (joined_of keep (hosts_of loaded) rules.unowned) fault))))

abbrev pub FirstFaultsBeforeCounts : Type 0
FirstFaultsBeforeCounts =
    (texts : List HostText) (rules : KeepRules) (map_text : List ℕ) (fault : Fault)
    → (cost_begun texts rules map_text ≡ Err fault)
    ↔ IsFirstBeforeCount texts rules map_text fault
