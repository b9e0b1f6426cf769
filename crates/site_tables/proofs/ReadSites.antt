-- What is joined of the hosts that were read, and with which pins.
use Rattle.std.specs.List.{All}
use Rattle.std.proofs.Common.{◌≡◌, ◌≤◌, ℕ, true, List, length, map, Result, Ok, Err, sym, ap, subst, ◌∙◌, arith}
use Rattle.std.proofs.lemmas.List.{length-map}
use Rattle.idtext.specs.First.{each}
use Rattle.idtext.proofs.OkLemmas.{bind_ok, length-each, ok_same}
use Rattle.hosts_join.specs.Checks.{hosts_checked, is_host_name}
use Rattle.hosts_join.specs.Hosts.{IsLawfulHost, SparesReserved}
use Rattle.hosts_join.specs.PinPairs.{PinPairs}
use Rattle.hosts_join.specs.PinsText.{pins_of}
use Rattle.hosts_join.specs.Site.{Joined, joined_site}
use Rattle.hosts_join.specs.declared.fault.PinsFault.{PinsFault}
use Rattle.hosts_join.specs.declared.host.Host.{Host}
use Rattle.hosts_join.specs.declared.texts.HostText.{HostText}
use Rattle.hosts_join.specs.Laws.{LeavesOut}
use Rattle.hosts_join.specs.Rules.{is_reserved}
use Rattle.hosts_join.proofs.Knowing.{site-is, sites_know}
use Rattle.hosts_join.proofs.SiteLemmas.{sites_are_lawful, pins_are_pins}
use Rattle.hosts_join.proofs.ReservedLaws.{sites_leave_reserved}
use Rattle.mergedfiles.specs.InPart.{WasReadInPart}
use Rattle.site_tables.specs.declared.host.Loaded.{Loaded}
use Rattle.site_tables.specs.declared.rules.KeepRules.{KeepRules}
use Rattle.site_tables.specs.declared.rules.SiteRules.{SiteRules}
use Rattle.site_tables.specs.Hosts.{host_of}
use Rattle.site_tables.specs.Others.{Others, others_loaded, others_read, pinned_site, reserving}
use Rattle.site_tables.specs.Begun.{AreTogether}
use Rattle.site_tables.specs.Sparing.{LeavesItsReserved}
use Rattle.site_tables.specs.Told.{in_pins, in_site}
use Rattle.site_tables.proofs.LeftHosts.{AreOthersBy, left, left-lawful, left-named, left-read, left-spares, others-by}
use Rattle.site_tables.proofs.LoadedHosts.{hosts-few, loaded-lawful, loaded-named, loaded-read, texts-named}
use Rattle.site_tables.proofs.SiteSteps.{site_ok, together}

pub pins-ok : {A : Type 0} (r : Result A PinsFault) (x : A) → in_pins r ≡ Ok x → r ≡ Ok x
pins-ok (Ok y) x h = ap (λ z. Ok z) (ok_same y x h)
pins-ok (Err e) x h = absurd (cc)

pub record AreLoaded (texts : List HostText) (keep : KeepRules) (others : Others) : Type 0 where
  pub loaded : List Loaded
  pub hosts_are : each host_of texts ≡ Ok loaded
  pub by : AreOthersBy keep (map (λ l. l.host) loaded) others

pub are-loaded : (texts : List HostText) (keep : KeepRules) (others : Others) → others_loaded texts keep ≡ Ok others → AreLoaded texts keep others
unfolding others_loaded
are-loaded texts keep others h =
    let loading = bind_ok (each host_of texts) (λ loaded. others_read keep (map (λ (l : Loaded). l.host) loaded)) others h in
    record { loaded = loading.0; hosts_are = loading.1; by = others-by keep (map (λ (l : Loaded). l.host) loading.0) others loading.2 }

-- there are as many as texts
pub as-many-others : (texts : List HostText) (keep : KeepRules) (others : Others) → others_loaded texts keep ≡ Ok others → length others.hosts ≡ length texts
as-many-others texts keep others h =
    let from = are-loaded texts keep others h in
    let full = map (λ (l : Loaded). l.host) from.loaded in
    sym (ap (λ (o : Others). length o.hosts) from.by.are) ∙ length-map full (left from.by.keep full keep.unowned) ∙ length-map from.loaded (λ (l : Loaded). l.host) ∙ length-each host_of texts from.loaded from.hosts_are

pub record ArePinned (others : Others) (pins_text : List ℕ) (joined : Joined) : Type 0 where
  pub pins : PinPairs
  pub pins_are : pins_of pins_text ≡ Ok pins
  pub joined_is : joined_site others.hosts (reserving others pins) ≡ Ok joined

pub are-pinned : (others : Others) (pins_text : List ℕ) (joined : Joined) → pinned_site others pins_text ≡ Ok joined → ArePinned others pins_text joined
are-pinned others pins_text joined h =
    let pinning = bind_ok (in_pins (pins_of pins_text)) (λ (pins : PinPairs). in_site (joined_site others.hosts (reserving others pins))) joined h in
    record {
      pins = pinning.0;
      pins_are = pins-ok (pins_of pins_text) pinning.0 pinning.1;
      joined_is = site_ok (joined_site others.hosts (reserving others pinning.0)) joined pinning.2;
    }

-- what is reserved of users, and of groups
pub reserved-are : (others : Others) (pins_text : List ℕ) (joined : Joined) → ArePinned others pins_text joined → (others.reserved_users ≡ joined.users.reserved) × (others.reserved_groups ≡ joined.groups.reserved)
reserved-are others pins_text joined is =
    let made = site-is others.hosts (reserving others is.pins) joined is.joined_is in
    (ap (λ (s : Joined). s.users.reserved) made, ap (λ (s : Joined). s.groups.reserved) made)

-- no name may be given what is reserved
pub leaves_reserved : (hosts : List Host) (pins : PinPairs) (joined : Joined) → joined_site hosts pins ≡ Ok joined → LeavesItsReserved joined
leaves_reserved hosts pins joined is =
    let both = sites_leave_reserved hosts pins joined is in
    let made = site-is hosts pins joined is in
    record {
      users = subst (λ rs. LeavesOut joined.users (is_reserved rs)) (ap (λ (s : Joined). s.users.reserved) made) both.0;
      groups = subst (λ rs. LeavesOut joined.groups (is_reserved rs)) (ap (λ (s : Joined). s.groups.reserved) made) both.1;
    }

pub others-together : (texts : List HostText) (rules : SiteRules) (u : Unit {0}) (others : Others) (joined : Joined) → hosts_checked texts ≡ Ok u → others_loaded texts rules.keep ≡ Ok others → pinned_site others rules.pins ≡ Ok joined → AreTogether others.hosts joined
others-together texts rules u others joined listed o j =
    let from = are-loaded texts rules.keep others o in
    let full : List Host = map (λ l. l.host) from.loaded in
    let keep = from.by.keep in
    let same : map (left keep full rules.keep.unowned) full ≡ others.hosts = ap (λ (x : Others). x.hosts) from.by.are in
    let pinned = are-pinned others rules.pins joined j in
    let pins : PinPairs = reserving others pinned.pins in
    let are_pins = pins_are_pins rules.pins pinned.pins pinned.pins_are in
    let reserved = reserved-are others rules.pins joined pinned in
    let lawful : All IsLawfulHost others.hosts = subst (λ hs. All IsLawfulHost hs) same (left-lawful keep full rules.keep.unowned (loaded-lawful texts from.loaded from.hosts_are)) in
    let few : length others.hosts ≤ 64 = omega (arith, hosts-few texts u listed, as-many-others texts rules.keep others o) in
    record {
      few = few;
      read = subst (λ hs. All WasReadInPart hs) same (left-read keep full rules.keep.unowned (loaded-read texts from.loaded from.hosts_are));
      lawful = lawful;
      together = together others.hosts pins joined pinned.joined_is;
      known = sites_know others.hosts pins joined lawful pinned.joined_is;
      spares = subst (λ hs. All (SparesReserved joined) hs) same
          (left-spares keep full rules.keep.unowned joined (ap (λ (x : Others). x.reserved_users) from.by.are ∙ reserved.0) (ap (λ (x : Others). x.reserved_groups) from.by.are ∙ reserved.1));
      leaves = leaves_reserved others.hosts pins joined pinned.joined_is;
      accounts = sites_are_lawful others.hosts pins joined few lawful (record { user_pins = are_pins.user_pins; group_pins = are_pins.group_pins }) pinned.joined_is;
      named = subst (λ hs. All (λ (h : Host). is_host_name h.name ≡ true) hs) same (left-named keep full rules.keep.unowned (loaded-named texts from.loaded from.hosts_are (texts-named texts u listed)));
    }
