-- A site that was read, step by step, and that it is whole.
use Rattle.std.proofs.Common.{◌≡◌, List, [], length, map, Ok, sym, ap, subst, ◌∙◌}
use Rattle.std.specs.List.{All}
use Rattle.std.proofs.lemmas.List.{length-map}
use Rattle.idtext.specs.First.{each}
use Rattle.idtext.proofs.OkLemmas.{bind_ok, ok_same}
use Rattle.hosts_join.specs.Checks.{hosts_checked}
use Rattle.hosts_join.specs.declared.host.Host.{Host}
use Rattle.hosts_join.specs.declared.texts.HostText.{HostText}
use Rattle.kept_accounts.specs.Reserving.{UnownedNumbers}
use Rattle.site_tables.specs.declared.rules.SiteRules.{SiteRules}
use Rattle.unify.specs.Count.{site_of}
use Rattle.site_tables.specs.Loading.{loaded_from}
use Rattle.site_tables.specs.Others.{Others, keeping_nothing, others_loaded, others_read, pinned_site}
use Rattle.unify.specs.Outcomes.{hosts_in}
use Rattle.unify.specs.Reading.{WholeSite, site_read}
use Rattle.site_tables.specs.Sparing.{SparesNothing}
use Rattle.site_tables.specs.Told.{in_site}
use Rattle.site_tables.proofs.LeftHosts.{all-left}
use Rattle.site_tables.proofs.LoadedHosts.{loaded-unsparing}
use Rattle.unify.proofs.Reading.{whole-read}
use Rattle.site_tables.proofs.ReadSites.{AreLoaded, are-loaded, as-many-others, others-together}
use Rattle.site_tables.proofs.SiteSteps.{site_ok}
use Rattle.unify.proofs.Whole.{hosts_held}
use Rattle.unify_laws.specs.Laws.{ReadHostsSpareNothing, ReadSitesAreWhole}

pub record Steps (texts : List HostText) (rules : SiteRules) (site : WholeSite) : Type 0 where
  pub listed : Unit {0}
  pub listed_are : hosts_checked texts ≡ Ok listed
  pub others : Others
  pub others_are : others_loaded texts rules.keep ≡ Ok others
  pub joined_is : pinned_site others rules.pins ≡ Ok site.joined
  pub files_are : each site_of (loaded_from others.hosts (map (λ t. t.mtree) texts)) ≡ Ok site.hosts

pub steps : (texts : List HostText) (rules : SiteRules) (site : WholeSite) → site_read texts rules ≡ Ok site → Steps texts rules site
unfolding site_read
steps texts rules site h =
    let listed = bind_ok (in_site (hosts_checked texts)) _ site h in
    let others = bind_ok (others_loaded texts rules.keep) _ site listed.2 in
    let joining = bind_ok (pinned_site others.0 rules.pins) _ site others.2 in
    let filing = bind_ok (each site_of (loaded_from others.0.hosts (map (λ t. t.mtree) texts))) _ site joining.2 in
    let made : WholeSite = record { hosts = filing.0; joined = joining.0 } in
    subst (Steps texts rules) (ok_same made site filing.2)
    (record {
      listed = listed.0;
      listed_are = site_ok (hosts_checked texts) listed.0 listed.1;
      others = others.0;
      others_are = others.1;
      joined_is = joining.1;
      files_are = filing.1;
    })

-- each host has the text of its inventory
pub paired : (texts : List HostText) (rules : SiteRules) (site : WholeSite) → (s : Steps texts rules site) → length (map (λ (t : HostText). t.mtree) texts) ≡ length s.others.hosts
paired texts rules site s = length-map texts (λ (t : HostText). t.mtree) ∙ sym (as-many-others texts rules.keep s.others s.others_are)

-- the hosts of a site are what is joined
pub hosts-are : (texts : List HostText) (rules : SiteRules) (site : WholeSite) → (s : Steps texts rules site) → s.others.hosts ≡ hosts_in site
hosts-are texts rules site s = (hosts_held s.others.hosts (map (λ t. t.mtree) texts) site.hosts (paired texts rules site s) s.files_are).0

pub read_sites_are_whole : ReadSitesAreWhole
read_sites_are_whole texts rules site h =
    let s = steps texts rules site h in
    whole-read s.others.hosts site.joined (map (λ t. t.mtree) texts) site.hosts (others-together texts rules s.listed s.others site.joined s.listed_are s.others_are s.joined_is) (paired texts rules site s) s.files_are

-- ---- an empty keep text

-- what is joined are all rows of the hosts
pub all-joined : (texts : List HostText) (unowned : UnownedNumbers) (others : Others) → (from : AreLoaded texts (keeping_nothing unowned) others) → others_loaded texts (keeping_nothing unowned) ≡ Ok others → record { hosts = map (λ l. l.host) from.loaded; reserved_users = []; reserved_groups = [] } ≡ others
unfolding others_loaded
all-joined texts unowned others from h =
    let full : List Host = map (λ l. l.host) from.loaded in
    let whole = all-left full unowned (loaded-unsparing texts from.loaded from.hosts_are) in
    let read : others_read (keeping_nothing unowned) full ≡ Ok others = rw from.hosts_are at h in
    ok_same (record { hosts = full; reserved_users = []; reserved_groups = [] }) others (sym whole ∙ read)

pub read_hosts_spare_nothing : ReadHostsSpareNothing
read_hosts_spare_nothing texts pins_text unowned site h =
    let rules : SiteRules = record { pins = pins_text; keep = keeping_nothing unowned } in
    let s = steps texts rules site h in
    let from = are-loaded texts (keeping_nothing unowned) s.others s.others_are in
    let same = ap (λ (o : Others). o.hosts) (all-joined texts unowned s.others from s.others_are) ∙ hosts-are texts rules site s in
    subst (λ hs. All SparesNothing hs) same (loaded-unsparing texts from.loaded from.hosts_are)
