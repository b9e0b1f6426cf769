-- Which counts are begun, step by step, and which fault is told of the others.
use Rattle.std.proofs.Common.{◌≡◌, ◌⊎◌, ℕ, Bool, true, false, cond, List, Result, Ok, Err, inl, inr, refl, sym, ap, ◌∙◌, subst}
use Rattle.std.specs.Prelude.{◌&&◌}
use Rattle.idtext.specs.First.{◌>>=◌, each}
use Rattle.idtext.proofs.OkLemmas.{bind_ok, ok_same}
use Rattle.hosts_join.specs.Checks.{hosts_checked}
use Rattle.hosts_join.specs.declared.host.Host.{Host}
use Rattle.hosts_join.specs.declared.texts.HostText.{HostText}
use Rattle.keep_text.specs.KeepTexts.{keep_of}
use Rattle.unify_texts.specs.Maps.{map_of}
use Rattle.unify_texts.specs.declared.fault.Fault.{Fault}
use Rattle.unify_texts.specs.declared.fault.Fault.TheVariants.{BadMap}
use Rattle.unify_texts.specs.declared.map_text.MapText.{MapText}
use Rattle.site_tables.specs.Hosts.{host_of}
use Rattle.site_tables.specs.MapLaws.{IsWholeMap}
use Rattle.site_tables.specs.Mapped.{BegunCost, cost_begun, is_group_map, is_user_map, mapped_names, names_checked}
use Rattle.site_tables.specs.Others.{Others, others_loaded, others_of}
use Rattle.site_tables.specs.SiteLaws.{FirstFaultsBeforeCounts, IsCountBegunFrom, IsFirstBeforeCount, IsNotWhole, IsRefusedOr, TakenCountsAreBegun, hosts_of, joined_of}
use Rattle.site_tables.specs.Told.{in_keep, in_site}
use Rattle.site_tables.specs.declared.rules.KeepRules.{KeepRules}
use Rattle.site_tables.proofs.CountSteps.{begun_is, list_refused, names_refused, others_refused}
use Rattle.site_tables.proofs.FaultLaws.{bind_err, never_err}
use Rattle.site_tables.proofs.MapLaws.{maps_are_whole}
use Rattle.site_tables.proofs.ReadSites.{are-loaded}
use Rattle.site_tables.proofs.SiteLaws.{keep_told, load_refused, others_given, others_told}
use Rattle.site_tables.proofs.SiteSteps.{site_ok}

-- ---- the names of a map

module _ (hosts : List Host) (names : MapText) where
  ok_never_err : (f : Fault) → names_checked names hosts ≡ Ok tt → names_checked names hosts ≡ Err f → ⊥
  ok_never_err f ok err = never_err tt f (sym ok ∙ err)

  names_told : (f : Fault) → names_checked names hosts ≡ Err f → IsNotWhole names hosts f
  names_told f e = let checked = maps_are_whole names hosts in (checked.refused f e, λ whole. ok_never_err f (checked.passed.1 whole) e)

  not_whole : (b : Bool) → ((b ≡ true) → ⊥) → cond b (Ok (tt {0})) (Err (BadMap 0)) ≡ Err (BadMap 0)
  not_whole true never = absurd (never refl)
  not_whole false never = refl

  names_back : (f : Fault) → IsNotWhole names hosts f → names_checked names hosts ≡ Err f
  names_back f is =
      let b = is_user_map names.users hosts && is_group_map names.groups hosts in
      not_whole b (λ t. is.1 ((maps_are_whole names hosts).passed.0 (ap (λ c. cond c (Ok tt) (Err (BadMap 0))) t)))
      ∙ ap (λ x. Err x) (sym is.0)

  abbrev after_names : Result MapText Fault
  after_names = names_checked names hosts >>= λ named. Ok names

-- ---- the map of a text

module _ (map_text : List ℕ) (hosts : List Host) where
  mapped_told : (f : Fault) → mapped_names map_text hosts ≡ Err f → IsRefusedOr (map_of map_text) f (λ names. IsNotWhole names hosts f)
  mapped_told f e = by_text (bind_err (map_of map_text) (after_names hosts) f e)
    where
      by_names : (names : MapText) → (names_checked names hosts ≡ Err f) ⊎ ((named : Unit {0}) × (names_checked names hosts ≡ Ok named) × (◌≡◌ {A = Result MapText Fault} (Ok names) (Err f))) → IsNotWhole names hosts f
      by_names names (inl told) = names_told hosts names f told
      by_names names (inr passed) = never_err names f passed.2

      by_text : (map_of map_text ≡ Err f) ⊎ ((names : MapText) × (map_of map_text ≡ Ok names) × (after_names hosts names ≡ Err f)) → IsRefusedOr (map_of map_text) f (λ names. IsNotWhole names hosts f)
      by_text (inl told) = inl told
      by_text (inr passed) = inr (passed.0, passed.1, by_names passed.0 (bind_err (names_checked passed.0 hosts) (λ named. Ok passed.0) f passed.2))

  mapped_refused : (f : Fault) → IsRefusedOr (map_of map_text) f (λ names. IsNotWhole names hosts f) → mapped_names map_text hosts ≡ Err f
  mapped_refused f (inl told) = ap (λ r. r >>= after_names hosts) told
  mapped_refused f (inr (names, m, is)) = ap (λ r. r >>= after_names hosts) m ∙ ap (λ r. r >>= λ (named : Unit {0}). Ok names) (names_back hosts names f is)

  mapped_given : (names : MapText) → mapped_names map_text hosts ≡ Ok names → (map_of map_text ≡ Ok names) × IsWholeMap names hosts
  mapped_given names e =
      let reading = bind_ok (map_of map_text) (after_names hosts) names e in
      let checking = bind_ok (names_checked reading.0 hosts) (λ named. Ok reading.0) names reading.2 in
      let same : reading.0 ≡ names = ok_same reading.0 names checking.2 in (
        reading.1 ∙ ap (λ n. Ok n) same,
        subst (λ n. IsWholeMap n hosts) same ((maps_are_whole reading.0 hosts).passed.0 checking.1),
      )

  mapped_back : (names : MapText) → map_of map_text ≡ Ok names → IsWholeMap names hosts → mapped_names map_text hosts ≡ Ok names
  mapped_back names m whole = ap (λ r. r >>= after_names hosts) m ∙ ap (λ r. r >>= λ (named : Unit {0}). Ok names) ((maps_are_whole names hosts).passed.1 whole)

-- ---- a count that is begun

module _ (texts : List HostText) (rules : KeepRules) (map_text : List ℕ) where
  abbrev with_names : Others → MapText → Result BegunCost Fault
  with_names others names = Ok (record { hosts = others.hosts; names = names })

  abbrev with_others : Others → Result BegunCost Fault
  with_others others = mapped_names map_text others.hosts >>= with_names others

  taken_there : (begun : BegunCost) → cost_begun texts rules map_text ≡ Ok begun → IsCountBegunFrom texts rules map_text begun
  unfolding cost_begun
  taken_there begun is =
      let listed = bind_ok (in_site (hosts_checked texts)) (λ listed. others_loaded texts rules >>= with_others) begun is in
      let loading = bind_ok (others_loaded texts rules) with_others begun listed.2 in
      let others = loading.0 in
      let naming = bind_ok (mapped_names map_text others.hosts) (with_names others) begun loading.2 in
      let from = are-loaded texts rules others loading.1 in
      let same : others_of from.by.keep (hosts_of from.loaded) rules.unowned ≡ others = from.by.are in
      let given = mapped_given map_text others.hosts naming.0 naming.1 in
      subst (IsCountBegunFrom texts rules map_text) (ok_same (record { hosts = others.hosts; names = naming.0 }) begun naming.2)
      (record {
        listed = site_ok (hosts_checked texts) listed.0 listed.1;
        loaded = from.loaded;
        loaded_are = from.hosts_are;
        keep = from.by.keep;
        keep_is = from.by.read;
        map_is = given.0;
        hosts = ap (λ (o : Others). o.hosts) (sym same);
        whole = given.1;
      })

  taken_back : (begun : BegunCost) → IsCountBegunFrom texts rules map_text begun → cost_begun texts rules map_text ≡ Ok begun
  taken_back begun is =
      let others : Others = others_of is.keep (hosts_of is.loaded) rules.unowned in
      begun_is texts rules map_text tt (ap in_site is.listed) others (others_given texts rules is.loaded is.loaded_are is.keep (ap in_keep is.keep_is)) begun.names
      (mapped_back map_text others.hosts begun.names is.map_is (subst (IsWholeMap begun.names) is.hosts is.whole))
      ∙ ap (λ hs. Ok (record { hosts = hs; names = begun.names })) (sym is.hosts)

  -- ---- the first fault

  module _ (f : Fault) where
    abbrev OfMap : List Host → Type 0
    OfMap hosts = IsRefusedOr (map_of map_text) f (λ names. IsNotWhole names hosts f)

    abbrev OfHosts : Type 0
    OfHosts = IsRefusedOr (each host_of texts) f (λ loaded. IsRefusedOr (in_keep (keep_of rules.text)) f (λ keep. OfMap (joined_of keep (hosts_of loaded) rules.unowned)))

    by_keep : IsRefusedOr (each host_of texts) f (λ l. in_keep (keep_of rules.text) ≡ Err f) → OfHosts
    by_keep (inl l) = inl l
    by_keep (inr (loaded, l, k)) = inr (loaded, l, inl k)

    by_map : (others : Others) → others_loaded texts rules ≡ Ok others → (mapped_names map_text others.hosts ≡ Err f) ⊎ ((names : MapText) × (mapped_names map_text others.hosts ≡ Ok names) × (with_names others names ≡ Err f)) → OfHosts
    by_map others o (inl told) =
        let from = are-loaded texts rules others o in
        let same : others_of from.by.keep (hosts_of from.loaded) rules.unowned ≡ others = from.by.are in
        inr (from.loaded, from.hosts_are, inr (from.by.keep, ap in_keep from.by.read, subst (λ (x : Others). OfMap x.hosts) (sym same) (mapped_told map_text others.hosts f told)))
    by_map others o (inr passed) = never_err (record { hosts = others.hosts; names = passed.0 }) f passed.2

    by_hosts : (others_loaded texts rules ≡ Err f) ⊎ ((others : Others) × (others_loaded texts rules ≡ Ok others) × (with_others others ≡ Err f)) → OfHosts
    by_hosts (inl told) = by_keep (others_told texts rules f told)
    by_hosts (inr passed) = by_map passed.0 passed.1 (bind_err (mapped_names map_text passed.0.hosts) (with_names passed.0) f passed.2)

    by_list : (in_site (hosts_checked texts) ≡ Err f) ⊎ ((listed : Unit {0}) × (in_site (hosts_checked texts) ≡ Ok listed) × ((others_loaded texts rules >>= with_others) ≡ Err f)) → IsFirstBeforeCount texts rules map_text f
    by_list (inl l) = inl l
    by_list (inr passed) = inr (passed.0, passed.1, by_hosts (bind_err (others_loaded texts rules) with_others f passed.2))

    first_there : cost_begun texts rules map_text ≡ Err f → IsFirstBeforeCount texts rules map_text f
    unfolding cost_begun
    first_there e = by_list (bind_err (in_site (hosts_checked texts)) (λ listed. others_loaded texts rules >>= with_others) f e)

    module _ (listed : Unit {0}) (l : in_site (hosts_checked texts) ≡ Ok listed) where
      hosts_refused : OfHosts → cost_begun texts rules map_text ≡ Err f
      hosts_refused (inl h) = others_refused texts rules map_text listed l f (load_refused texts rules f h)
      hosts_refused (inr (loaded, h, inl k)) = others_refused texts rules map_text listed l f (keep_told texts rules loaded h f k)
      hosts_refused (inr (loaded, h, inr (keep, k, m))) =
          let others : Others = others_of keep (hosts_of loaded) rules.unowned in
          names_refused texts rules map_text listed l others (others_given texts rules loaded h keep k) f (mapped_refused map_text others.hosts f m)

    first_back : IsFirstBeforeCount texts rules map_text f → cost_begun texts rules map_text ≡ Err f
    first_back (inl l) = list_refused texts rules map_text f l
    first_back (inr (listed, l, h)) = hosts_refused listed l h

pub taken_counts_are_begun : TakenCountsAreBegun
taken_counts_are_begun texts rules map_text begun = (taken_there texts rules map_text begun, taken_back texts rules map_text begun)

pub first_faults_before_counts : FirstFaultsBeforeCounts
first_faults_before_counts texts rules map_text f = (first_there texts rules map_text f, first_back texts rules map_text f)
