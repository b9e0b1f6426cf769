-- What is joined or counted of hosts, as it is held.
use Rattle.std.proofs.Common.{◌≡◌, ℕ, List, length, map, Result, Ok, Err, refl, sym, ap, subst, ◌∙◌}
use Rattle.std.specs.Prelude.{IfOk}
use Rattle.std.specs.List.{All}
use Rattle.std.proofs.lemmas.List.{length-map}
use Rattle.idtext.specs.First.{Gives, Yields, each}
use Rattle.hosts_join.specs.Checks.{hosts_checked}
use Rattle.hosts_join.specs.Hosts.{IsLawfulHost}
use Rattle.hosts_join.specs.declared.host.Host.{Host}
use Rattle.hosts_join.specs.declared.texts.HostText.{HostText}
use Rattle.unify_texts.specs.Told.{told}
use Rattle.unify_texts.specs.declared.fault.Fault.{Fault}
use Rattle.site_tables.specs.declared.host.Loaded.{Loaded}
use Rattle.site_tables.specs.declared.mapped.MappedHosts.{MappedHosts}
use Rattle.site_tables.specs.declared.others.OtherHosts.{OtherHosts}
use Rattle.site_tables.specs.declared.rules.KeepRules.{KeepRules}
use Rattle.site_tables.specs.declared.rules.SiteRules.{SiteRules}
use Rattle.site_tables.specs.declared.site.JoinedHosts.{JoinedHosts}
use Rattle.site_tables.specs.Mapped.{cost_begun, mapped_names}
use Rattle.site_tables.specs.Hosts.{host_of}
use Rattle.site_tables.specs.Others.{Others, others_loaded, others_read, pinned_site}
use Rattle.site_tables.specs.OthersHeld.{others_in}
use Rattle.site_tables.specs.Begun.{AreTogether, HoldsBegun, site_begun}
use Rattle.site_tables.specs.Told.{in_site}
use Rattle.site_tables.proofs.CountSteps as count
use Rattle.unify_texts.proofs.Faults.{passed_on}
use Rattle.site_tables.proofs.LeftHosts.{left, left-lawful, others-by}
use Rattle.site_tables.proofs.ReadSites.{others-together}
use Rattle.site_tables.proofs.SiteSteps.{begun_is, join_refused, site_ok}

-- what holds of the same hosts
pub if_hosts : {T : Type 0} (hosts_in : T → List Host) (hosts : List Host) (P : List Host → Type 0) (result : Result T Fault) → IfOk result (λ x. hosts_in x ≡ hosts) → P hosts → IfOk result (λ x. P (hosts_in x))
if_hosts hosts_in hosts P (Ok x) same holds = subst P (sym same) holds
if_hosts hosts_in hosts P (Err e) same holds = tt

-- ---- what is left of hosts

pub loaded_refused : (texts : List HostText) (keep : KeepRules) (f : Fault) → each host_of texts ≡ Err f → others_loaded texts keep ≡ Err f
unfolding others_loaded
loaded_refused texts keep f h = rw h refl

pub loaded_behind : (texts : List HostText) (keep : KeepRules) (loaded : List Loaded) → each host_of texts ≡ Ok loaded → others_loaded texts keep ≡ others_read keep (map (λ l. l.host) loaded)
unfolding others_loaded
loaded_behind texts keep loaded h = rw h refl

pub as_many_left : (keep : KeepRules) (hosts : List Host) (result : Result OtherHosts Fault) → Gives others_in told result (others_read keep hosts) → IfOk result (λ others. length others.hosts.items ≡ length hosts)
as_many_left keep hosts (Ok others) h =
    let by = others-by keep hosts (others_in others) h in
    sym (ap (λ (o : Others). length o.hosts) by.are) ∙ length-map hosts (left by.keep hosts keep.unowned)
as_many_left keep hosts (Err e) h = tt

pub left_are_lawful : (keep : KeepRules) (hosts : List Host) → All IsLawfulHost hosts → (result : Result OtherHosts Fault) → Gives others_in told result (others_read keep hosts) → IfOk result (λ others. All IsLawfulHost others.hosts.items)
left_are_lawful keep hosts lawful (Ok others) h =
    let by = others-by keep hosts (others_in others) h in
    subst (λ (o : Others). All IsLawfulHost o.hosts) by.are (left-lawful by.keep hosts keep.unowned lawful)
left_are_lawful keep hosts lawful (Err e) h = tt

-- ---- what is joined, and what is counted

module _ (texts : List HostText) (u : Unit {0}) (listed : in_site (hosts_checked texts) ≡ Ok u) (others : OtherHosts) where
  -- pins: as they are read
  pub begun_held : (rules : SiteRules) (pins : List ℕ) → pins ≡ rules.pins → others_loaded texts rules.keep ≡ Ok (others_in others) → (result : Result JoinedHosts Fault) → Gives (λ held. held.site) told result (pinned_site (others_in others) pins)
      → IfOk result (λ held. held.hosts.items ≡ others.hosts.items) → Yields HoldsBegun told result (site_begun texts rules)
  begun_held rules pins same o (Ok held) site hosts =
      let joined : pinned_site (others_in others) rules.pins ≡ Ok held.site = ap (pinned_site (others_in others)) (sym same) ∙ site in
      let whole = others-together texts rules u (others_in others) held.site (site_ok (hosts_checked texts) u listed) o joined in (
        record { hosts = others.hosts.items; joined = held.site },
        begun_is texts rules u listed (others_in others) o held.site joined,
        record {
          hosts = hosts;
          joined = refl;
          whole = subst (λ (hs : List Host). AreTogether hs held.site) (sym hosts) whole;
        },
      )
  begun_held rules pins same o (Err e) site hosts =
      passed_on (told e) (pinned_site (others_in others) pins) (site_begun texts rules) (λ f h. join_refused texts rules u listed (others_in others) o f (ap (pinned_site (others_in others)) (sym same) ∙ h)) site

  pub counted_held : (keep : KeepRules) (map_text : List ℕ) → others_loaded texts keep ≡ Ok (others_in others) → (result : Result MappedHosts Fault) → Gives (λ held. held.names) told result (mapped_names map_text others.hosts.items)
      → IfOk result (λ held. held.hosts.items ≡ others.hosts.items) → Yields (λ begun held. (held.hosts.items ≡ begun.hosts) × (held.names ≡ begun.names)) told result (cost_begun texts keep map_text)
  counted_held keep map_text o (Ok held) names hosts = (
    record { hosts = others.hosts.items; names = held.names },
    count.begun_is texts keep map_text u listed (others_in others) o held.names names,
    (hosts, refl),
  )
  counted_held keep map_text o (Err e) names hosts = passed_on (told e) (mapped_names map_text others.hosts.items) (cost_begun texts keep map_text) (count.names_refused texts keep map_text u listed (others_in others) o) names
