-- Which sites are begun, step by step, and which fault is told of the others.
use Rattle.std.proofs.Common.{◌≡◌, ◌⊎◌, ℕ, List, Result, Ok, Err, inl, inr, sym, ap, ◌∙◌, subst}
use Rattle.idtext.specs.First.{◌>>=◌, each}
use Rattle.idtext.proofs.OkLemmas.{bind_ok, ok_same}
use Rattle.hosts_join.specs.Checks.{hosts_checked}
use Rattle.hosts_join.specs.PinPairs.{PinPairs}
use Rattle.hosts_join.specs.PinsText.{pins_of}
use Rattle.hosts_join.specs.Site.{Joined, joined_site}
use Rattle.hosts_join.specs.declared.texts.HostText.{HostText}
use Rattle.keep_text.specs.KeepTexts.{keep_of}
use Rattle.keep_text.specs.declared.keep_text.KeepText.{KeepText}
use Rattle.unify_texts.specs.declared.fault.Fault.{Fault}
use Rattle.site_tables.specs.Hosts.{host_of}
use Rattle.site_tables.specs.Others.{Others, others_loaded, others_of, others_read, pinned_site, reserving}
use Rattle.site_tables.specs.Begun.{BegunSite, site_begun}
use Rattle.site_tables.specs.SiteLaws.{FirstFaultsOfSites, IsBegunFrom, IsFirstOfSite, IsRefusedOr, TakenSitesAreBegun, hosts_of, joined_of, pins_by}
use Rattle.site_tables.specs.Told.{in_keep, in_pins, in_site}
use Rattle.site_tables.specs.declared.host.Loaded.{Loaded}
use Rattle.site_tables.specs.declared.rules.KeepRules.{KeepRules}
use Rattle.site_tables.specs.declared.rules.SiteRules.{SiteRules}
use Rattle.site_tables.proofs.FaultLaws.{bind_err, never_err}
use Rattle.site_tables.proofs.ReadSites.{are-loaded, are-pinned}
use Rattle.site_tables.proofs.SiteSteps.{begun_is, join_refused, list_refused, others_refused, site_ok}

-- ---- what is joined of the hosts

module _ (texts : List HostText) (rules : KeepRules) where
  abbrev with_hosts : List Loaded → Result Others Fault
  with_hosts loaded = others_read rules (hosts_of loaded)

  pub load_refused : (f : Fault) → each host_of texts ≡ Err f → others_loaded texts rules ≡ Err f
  unfolding others_loaded
  load_refused f h = ap (λ r. r >>= with_hosts) h

  module _ (loaded : List Loaded) (l : each host_of texts ≡ Ok loaded) where
    abbrev with_keep : KeepText → Result Others Fault
    with_keep keep = Ok (others_of keep (hosts_of loaded) rules.unowned)

    then_read : others_loaded texts rules ≡ (in_keep (keep_of rules.text) >>= with_keep)
    unfolding others_loaded others_read
    then_read = ap (λ r. r >>= with_hosts) l

    pub keep_told : (f : Fault) → in_keep (keep_of rules.text) ≡ Err f → others_loaded texts rules ≡ Err f
    keep_told f k = then_read ∙ ap (λ r. r >>= with_keep) k

    pub others_given : (keep : KeepText) → in_keep (keep_of rules.text) ≡ Ok keep → others_loaded texts rules ≡ Ok (others_of keep (hosts_of loaded) rules.unowned)
    others_given keep k = then_read ∙ ap (λ r. r >>= with_keep) k

  -- why they are refused
  after_keep : (f : Fault) (loaded : List Loaded) → each host_of texts ≡ Ok loaded → (in_keep (keep_of rules.text) ≡ Err f) ⊎ ((keep : KeepText) × (in_keep (keep_of rules.text) ≡ Ok keep) × (◌≡◌ {A = Result Others Fault} (Ok (others_of keep (hosts_of loaded) rules.unowned)) (Err f)))
      → IsRefusedOr (each host_of texts) f (λ l. in_keep (keep_of rules.text) ≡ Err f)
  after_keep f loaded l (inl k) = inr (loaded, l, k)
  after_keep f loaded l (inr passed) = never_err (others_of passed.0 (hosts_of loaded) rules.unowned) f passed.2

  after_hosts : (f : Fault) → (each host_of texts ≡ Err f) ⊎ ((loaded : List Loaded) × (each host_of texts ≡ Ok loaded) × (with_hosts loaded ≡ Err f)) → IsRefusedOr (each host_of texts) f (λ l. in_keep (keep_of rules.text) ≡ Err f)
  unfolding others_read
  after_hosts f (inl l) = inl l
  after_hosts f (inr passed) =
      after_keep f passed.0 passed.1 (bind_err (in_keep (keep_of rules.text)) (λ keep. Ok (others_of keep (hosts_of passed.0) rules.unowned)) f passed.2)

  pub others_told : (f : Fault) → others_loaded texts rules ≡ Err f → IsRefusedOr (each host_of texts) f (λ l. in_keep (keep_of rules.text) ≡ Err f)
  unfolding others_loaded
  others_told f h = after_hosts f (bind_err (each host_of texts) with_hosts f h)

-- ---- a site that is begun

taken_there : (texts : List HostText) (rules : SiteRules) (begun : BegunSite) → site_begun texts rules ≡ Ok begun → IsBegunFrom texts rules begun
unfolding site_begun
taken_there texts rules begun is =
    let listed = bind_ok (in_site (hosts_checked texts)) _ begun is in
    let loading = bind_ok (others_loaded texts rules.keep) _ begun listed.2 in
    let others = loading.0 in
    let joining = bind_ok (pinned_site others rules.pins) _ begun loading.2 in
    let joined = joining.0 in
    let from = are-loaded texts rules.keep others loading.1 in
    let pinned = are-pinned others rules.pins joined joining.1 in
    let same : others_of from.by.keep (hosts_of from.loaded) rules.keep.unowned ≡ others = from.by.are in
    subst (IsBegunFrom texts rules) (ok_same (record { hosts = others.hosts; joined = joined }) begun joining.2)
    (record {
      listed = site_ok (hosts_checked texts) listed.0 listed.1;
      loaded = from.loaded;
      loaded_are = from.hosts_are;
      keep = from.by.keep;
      keep_is = from.by.read;
      pins = pinned.pins;
      pins_are = pinned.pins_are;
      hosts = ap (λ (o : Others). o.hosts) (sym same);
      joined = ap (λ (o : Others). joined_site others.hosts (reserving o pinned.pins)) same ∙ pinned.joined_is;
    })

module _ (texts : List HostText) (rules : SiteRules) (begun : BegunSite) (is : IsBegunFrom texts rules begun) where
  abbrev others : Others
  others = others_of is.keep (hosts_of is.loaded) rules.keep.unowned

  join_is : joined_site others.hosts (reserving others is.pins) ≡ Ok begun.joined
  join_is = ap (λ hs. joined_site hs (reserving others is.pins)) (sym is.hosts) ∙ is.joined

  pinned_is : pinned_site others rules.pins ≡ Ok begun.joined
  pinned_is = ap (λ r. in_pins r >>= λ (pins : PinPairs). in_site (joined_site others.hosts (reserving others pins))) is.pins_are ∙ ap in_site join_is

  taken_back : site_begun texts rules ≡ Ok begun
  taken_back =
      begun_is texts rules tt (ap in_site is.listed) others (others_given texts rules.keep is.loaded is.loaded_are is.keep (ap in_keep is.keep_is)) begun.joined pinned_is
      ∙ ap (λ hs. Ok (record { hosts = hs; joined = begun.joined })) (sym is.hosts)

pub taken_sites_are_begun : TakenSitesAreBegun
taken_sites_are_begun texts rules begun = (taken_there texts rules begun, taken_back texts rules begun)

-- ---- the first fault

abbrev begun_with : Others → Joined → Result BegunSite Fault
begun_with others joined = Ok (record { hosts = others.hosts; joined = joined })

abbrev joined_with : List ℕ → Others → Result BegunSite Fault
joined_with pins_text others = pinned_site others pins_text >>= begun_with others

module _ (texts : List HostText) (rules : SiteRules) (f : Fault) where
  abbrev OfPins : List Loaded → KeepText → Type 0
  OfPins loaded keep =
      IsRefusedOr (in_pins (pins_of rules.pins)) f
      (λ pins. in_site (joined_site (joined_of keep (hosts_of loaded) rules.keep.unowned) (pins_by keep (hosts_of loaded) rules.keep.unowned pins)) ≡ Err f)

  abbrev OfHosts : Type 0
  OfHosts = IsRefusedOr (each host_of texts) f (λ loaded. IsRefusedOr (in_keep (keep_of rules.keep.text)) f (λ keep. OfPins loaded keep))

  by_keep : IsRefusedOr (each host_of texts) f (λ l. in_keep (keep_of rules.keep.text) ≡ Err f) → OfHosts
  by_keep (inl l) = inl l
  by_keep (inr (loaded, l, k)) = inr (loaded, l, inl k)

  module _ (others : Others) (o : others_loaded texts rules.keep ≡ Ok others) where
    by_pins : (in_pins (pins_of rules.pins) ≡ Err f) ⊎ ((pins : PinPairs) × (in_pins (pins_of rules.pins) ≡ Ok pins) × (in_site (joined_site others.hosts (reserving others pins)) ≡ Err f)) → OfHosts
    by_pins (inl p) =
        let from = are-loaded texts rules.keep others o in
        inr (from.loaded, from.hosts_are, inr (from.by.keep, ap in_keep from.by.read, inl p))
    by_pins (inr (pins, p, j)) =
        let from = are-loaded texts rules.keep others o in
        let same : others_of from.by.keep (hosts_of from.loaded) rules.keep.unowned ≡ others = from.by.are in
        inr (from.loaded, from.hosts_are, inr (from.by.keep, ap in_keep from.by.read, inr (pins, p, ap (λ (x : Others). in_site (joined_site x.hosts (reserving x pins))) same ∙ j)))

    by_join : (pinned_site others rules.pins ≡ Err f) ⊎ ((joined : Joined) × (pinned_site others rules.pins ≡ Ok joined) × (begun_with others joined ≡ Err f)) → OfHosts
    by_join (inl told) = by_pins (bind_err (in_pins (pins_of rules.pins)) (λ (pins : PinPairs). in_site (joined_site others.hosts (reserving others pins))) f told)
    by_join (inr passed) = never_err (record { hosts = others.hosts; joined = passed.0 }) f passed.2

  by_hosts : (others_loaded texts rules.keep ≡ Err f) ⊎ ((others : Others) × (others_loaded texts rules.keep ≡ Ok others) × (joined_with rules.pins others ≡ Err f)) → OfHosts
  by_hosts (inl told) = by_keep (others_told texts rules.keep f told)
  by_hosts (inr passed) = by_join passed.0 passed.1 (bind_err (pinned_site passed.0 rules.pins) (begun_with passed.0) f passed.2)

  by_list : (in_site (hosts_checked texts) ≡ Err f) ⊎ ((listed : Unit {0}) × (in_site (hosts_checked texts) ≡ Ok listed) × ((others_loaded texts rules.keep >>= joined_with rules.pins) ≡ Err f)) → IsFirstOfSite texts rules f
  by_list (inl l) = inl l
  by_list (inr passed) = inr (passed.0, passed.1, by_hosts (bind_err (others_loaded texts rules.keep) (joined_with rules.pins) f passed.2))

  first_there : site_begun texts rules ≡ Err f → IsFirstOfSite texts rules f
  unfolding site_begun
  first_there e = by_list (bind_err (in_site (hosts_checked texts)) (λ listed. others_loaded texts rules.keep >>= joined_with rules.pins) f e)

  module _ (listed : Unit {0}) (l : in_site (hosts_checked texts) ≡ Ok listed) where
    abbrev with_pins : Others → PinPairs → Result Joined Fault
    with_pins others pins = in_site (joined_site others.hosts (reserving others pins))

    pins_refused : (loaded : List Loaded) → each host_of texts ≡ Ok loaded → (keep : KeepText) → in_keep (keep_of rules.keep.text) ≡ Ok keep → OfPins loaded keep → site_begun texts rules ≡ Err f
    pins_refused loaded h keep k (inl p) =
        let others = others_of keep (hosts_of loaded) rules.keep.unowned in
        join_refused texts rules listed l others (others_given texts rules.keep loaded h keep k) f (ap (λ r. r >>= with_pins others) p)
    pins_refused loaded h keep k (inr (pins, p, j)) =
        let others = others_of keep (hosts_of loaded) rules.keep.unowned in
        join_refused texts rules listed l others (others_given texts rules.keep loaded h keep k) f (ap (λ r. r >>= with_pins others) p ∙ j)

    hosts_refused : OfHosts → site_begun texts rules ≡ Err f
    hosts_refused (inl h) = others_refused texts rules listed l f (load_refused texts rules.keep f h)
    hosts_refused (inr (loaded, h, inl k)) = others_refused texts rules listed l f (keep_told texts rules.keep loaded h f k)
    hosts_refused (inr (loaded, h, inr (keep, k, p))) = pins_refused loaded h keep k p

  first_back : IsFirstOfSite texts rules f → site_begun texts rules ≡ Err f
  first_back (inl l) = list_refused texts rules f l
  first_back (inr (listed, l, h)) = hosts_refused listed l h

pub first_faults_of_sites : FirstFaultsOfSites
first_faults_of_sites texts rules f = (first_there texts rules f, first_back texts rules f)
