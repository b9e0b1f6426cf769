-- What commands over texts answer.
use Rattle.std.proofs.Common.{◌≡◌, ℕ, suc, ◌+◌, ◌≤◌, List, [], ◌∷◌, Bool, true, false, length, map, Result, Ok, Err, refl, sym, ap, subst, ◌∙◌, arith, inl, inr}
use Rattle.std.specs.Prelude.{IfSome, IfOk, IfErr}
use Rattle.std.specs.Bool.{if◌then◌else◌}
use Rattle.std.proofs.lemmas.List.{length-map}
use Rattle.idtext.specs.First.{◌>>=◌, Gives, each}
use Rattle.idtext.proofs.OkLemmas.{bind_ok, length-each, ok_same}
use Rattle.mtree_inv.specs.declared.entry.Entry.{Entry}
use Rattle.hosts_join.specs.Checks.{hosts_checked}
use Rattle.hosts_join.specs.Site.{Joined}
use Rattle.hosts_join.specs.declared.host.Host.{Host}
use Rattle.hosts_join.specs.declared.texts.HostText.{HostText}
use Rattle.keep_text.specs.declared.keep_text.KeepText.{KeepText}
use Rattle.kept_accounts.specs.Reserving.{UnownedNumbers, no_numbers}
use Rattle.ownership.specs.declared.mapping.Mappings.{Mappings}
use Rattle.unify_texts.specs.Told.{told}
use Rattle.unify_texts.specs.declared.fault.Fault.{Fault}
use Rattle.unify_texts.specs.declared.fault.Fault.TheVariants.{Memory}
use Rattle.unify.specs.declared.counting.Cost.{Cost}
use Rattle.site_tables.specs.declared.host.Loaded.{Loaded}
use Rattle.unify.specs.declared.outcome.Outcome.{Outcome}
use Rattle.site_tables.specs.declared.rules.KeepRules.{KeepRules}
use Rattle.site_tables.specs.declared.rules.SiteRules.{SiteRules}
use Rattle.unify.specs.declared.site_files.NamedText.{NamedText}
use Rattle.unify.specs.declared.site_files.SiteFiles.{SiteFiles}
use Rattle.unify.specs.Checking.{IsChecked, check_of}
use Rattle.unify.specs.Count.{count_of, site_of}
use Rattle.site_tables.specs.Hosts.{host_of}
use Rattle.site_tables.specs.Loading.{loaded_from}
use Rattle.site_tables.specs.Others.{keep_read}
use Rattle.unify.specs.Outcomes.{hosts_in, plan_texts_from}
use Rattle.unify.specs.Reading.{WholeSite, site_read}
use Rattle.site_tables.specs.Survey.{keeps_unowned, listed_of, sparing_ranges, surveyed, surveyed_hosts, unowned_over}
use Rattle.site_tables.specs.Told.{in_site}
use Rattle.unify.proofs.Sites.{total_fault}
use Rattle.site_tables.proofs.Surveys.{as_many_texts, found_refused, survey_behind, survey_refused}
use Rattle.unify.proofs.Whole.{hosts_held}
use Rattle.unify_laws.specs.HostTexts.{AreSiteFiles, host_files}
use Rattle.unify_laws.specs.Texts.{mtrees}
use Rattle.unify_laws.proofs.CountPasses.{count_behind, count_refused}
use Rattle.unify_laws.proofs.TwoPasses.{begun_refused, inventories_refused, site_is}
use Rattle.unify_merge.specs.Check.{HasChecked, IsCheckFault, StopsCheck}
use Rattle.unify_merge.specs.Count.{HasCounted, IsCountFault, StopsCount}
use Rattle.unify_merge.specs.FirstReading.{WereEachRead, with_inventories}
use Rattle.unify_merge.specs.Ledger.{Ledger}
use Rattle.unify_merge.specs.Merge.{HasMade, HasMerged, IsMergeFault, StopsMerge, first_files, report_file}
use Rattle.unify_merge.specs.SecondReading.{plan_files}
use Rattle.unify_merge.specs.Surveyed.{IsFindingFault, StopsFinding, WereFound}
use Rattle.unify_merge.specs.declared.fault.MergeFault.{MergeFault}
use Rattle.unify_merge.specs.declared.fault.MergeFault.TheVariants.{Failed, TooLarge, Refused}
use Rattle.unify_merge.proofs.Stops.{if_told}
use Rattle.unify_bundle.specs.InMemory.{in_memory}
use Rattle.unify_bundle.specs.HostParts.{ArePartedFor}
use Rattle.unify_bundle.specs.TextFiles.{ReadsTexts}
use Rattle.unify_bundle.proofs.SameTexts as same
use Rattle.unify_bundle.proofs.SameTexts.{at_start, begun_each, costed_each, own_inventories}

-- ---- how many there are

surveyed_few : (texts : List HostText) (keep : Result KeepText Fault) (hosts : List Host) → surveyed_hosts texts keep ≡ Ok hosts → length hosts ≤ length texts
surveyed_few texts (Err f) hosts is = let none : [] ≡ hosts = ok_same [] hosts is in omega (arith, ap length none)
surveyed_few texts (Ok keep) hosts is = by (keeps_unowned keep) refl
  where
    by : (b : Bool) → keeps_unowned keep ≡ b → length hosts ≤ length texts
    by false e = let none : [] ≡ hosts = ok_same [] hosts (rw e at is) in omega (arith, ap length none)
    by true e =
        let spared = rw e at is in
        let listed = bind_ok (in_site (hosts_checked texts)) _ hosts spared in
        let loaded = bind_ok (each host_of texts) (λ loaded. Ok (map (λ (l : Loaded). sparing_ranges keep l.host) loaded)) hosts listed.2 in
        omega (arith, ap length (ok_same (map (λ (l : Loaded). sparing_ranges keep l.host) loaded.0) hosts loaded.2), length-map loaded.0 (λ (l : Loaded). sparing_ranges keep l.host), length-each host_of texts loaded.0 loaded.1)

first_each : (keeps : Bool) (o : Outcome) → length (first_files (record o { keeps_names = keeps })) ≡ (if keeps then 2 else 4)
first_each true o = refl
first_each false o = refl

planned_each : (texts : List HostText) (plans : List (List ℕ)) → length plans ≡ length texts → length (plan_files texts plans) ≡ length texts
planned_each [] plans same = refl
planned_each (t ∷ texts) [] same = absurd (omega (arith, same))
planned_each (t ∷ texts) (p ∷ plans) same = ap suc (planned_each texts plans (omega (arith, same)))

planned_texts : (texts : List HostText) (plans : List (List ℕ)) → length plans ≡ length texts → map (λ (f : NamedText). f.text) (plan_files texts plans) ≡ plans
planned_texts [] [] same = refl
planned_texts [] (p ∷ plans) same = absurd (omega (arith, same))
planned_texts (t ∷ texts) [] same = absurd (omega (arith, same))
planned_texts (t ∷ texts) (p ∷ plans) same = ap (λ ps. p ∷ ps) (planned_texts texts plans (omega (arith, same)))

plans_each : (hosts : List Host) (site : Joined) (m : Mappings) (index : ℕ) (files : List (List Entry)) → length (plan_texts_from hosts site m index files) ≡ length files
plans_each hosts site m index [] = refl
plans_each hosts site m index (here ∷ files) = ap suc (plans_each hosts site m (index + 1) files)

-- ---- commands

module _ (hosts : List HostText) (all : List (List ℕ)) (new : Ledger) (own : ReadsTexts all new) where
  -- ---- a count

  pub counted : (keep : KeepRules) (said : List ℕ) (result : Result Cost MergeFault) → IfOk result (HasCounted hosts keep said (at_start hosts) new) → IfErr result (StopsCount hosts keep said (at_start hosts) new)
      → Gives (λ cost. cost) told (in_memory result) (count_of hosts keep said)
  counted keep said (Ok cost) h stops =
      let is = same.once hosts all new own h.texts h.were_read.readings h.were_read.one_each in
      ap (λ hs. count_of hs keep said) (sym (own_inventories hosts)) ∙ ap (λ ts. count_of (with_inventories hosts ts) keep said) (sym is) ∙ h.answer
  counted keep said (Err (Failed e)) h stops = tt
  counted keep said (Err TooLarge) h stops = tt
  counted keep said (Err (Refused e)) h stops = if_told (told e) _ _ by stops
    where
      by : (f : Fault) → IsCountFault hosts keep said (at_start hosts) new f → count_of hosts keep said ≡ Err f
      by f (inl refused) = count_refused hosts keep said f refused.0
      by f (inr (begun, is, fault)) =
          count_behind hosts keep said begun is ∙ total_fault begun.names _ f (same.inventories_refused hosts all new own begun.hosts (omega (arith, costed_each hosts keep said begun is)) f fault)

  -- ---- a check

  at_checked : (rules : SiteRules) (certificate : List ℕ) (texts : List (List ℕ)) → WereEachRead hosts texts (at_start hosts) new → with_inventories hosts texts ≡ hosts
  at_checked rules certificate texts read = ap (with_inventories hosts) (same.once hosts all new own texts read.readings read.one_each) ∙ own_inventories hosts

  pub checked : (rules : SiteRules) (certificate : List ℕ) (result : Result ℕ MergeFault) → IfOk result (HasChecked hosts rules certificate (at_start hosts) new) → IfErr result (StopsCheck hosts rules certificate (at_start hosts) new)
      → Gives (λ cost. cost) told (in_memory result) (check_of hosts rules certificate) × IfOk (in_memory result) (IsChecked hosts rules certificate)
  unfolding check_of
  checked rules certificate (Ok cost) h stops =
      let is = at_checked rules certificate h.texts h.were_read in
      (ap (λ hs. check_of hs rules certificate) (sym is) ∙ h.answer, subst (λ hs. IsChecked hs rules certificate cost) is h.means)
  checked rules certificate (Err (Failed e)) h stops = (tt, tt)
  checked rules certificate (Err TooLarge) h stops = (tt, tt)
  checked rules certificate (Err (Refused e)) h stops = (if_told (told e) _ _ by stops, tt)
    where
      unread : (f : Fault) → site_read hosts rules ≡ Err f → check_of hosts rules certificate ≡ Err f
      unread f read = rw read refl

      by : (f : Fault) → IsCheckFault hosts rules certificate (at_start hosts) new f → check_of hosts rules certificate ≡ Err f
      by f (inl refused) = unread f (begun_refused hosts rules f refused.0)
      by f (inr (inl (begun, is, fault))) =
          unread f (inventories_refused hosts rules begun f is (same.inventories_refused hosts all new own begun.hosts (omega (arith, begun_each hosts rules begun is)) f fault))
      by f (inr (inr (texts, read, bad))) = ap (λ hs. check_of hs rules certificate) (sym (at_checked rules certificate texts read)) ∙ bad

  -- ---- a survey

  pub found : (keep : List ℕ) (result : Result UnownedNumbers MergeFault) → IfOk result (WereFound hosts keep (at_start hosts) new) → IfErr result (StopsFinding hosts keep (at_start hosts) new)
      → Gives (λ found. found) told (in_memory result) (surveyed hosts keep)
  found keep (Ok unowned) h stops =
      let is = same.surveyed_once hosts all new own h.surveying (surveyed_few hosts (keep_read keep) h.surveying h.surveying_are) h.texts h.one_each h.readings in
      survey_behind hosts keep h.surveying h.surveying_are
      ∙ ap (λ ls. each listed_of ls >>= λ listed. Ok (unowned_over no_numbers listed)) (sym (as_many_texts h.surveying (mtrees hosts)) ∙ ap (loaded_from h.surveying) (sym is)) ∙ h.found
  found keep (Err (Failed e)) h stops = tt
  found keep (Err TooLarge) h stops = tt
  found keep (Err (Refused e)) h stops = if_told (told e) _ _ by stops
    where
      by : (f : Fault) → IsFindingFault hosts keep (at_start hosts) new f → surveyed hosts keep ≡ Err f
      by f (inl refused) = survey_refused hosts keep f refused.0
      by f (inr (surveying, are, fault)) =
          survey_behind hosts keep surveying are ∙ found_refused surveying (mtrees hosts) f (same.survey_refused hosts all new own surveying (surveyed_few hosts (keep_read keep) surveying are) f fault)

  -- ---- a merge

  pub merge_refused : (rules : SiteRules) (result : Result Outcome MergeFault) (e : Fault) → in_memory result ≡ Err e → IfErr result (StopsMerge hosts rules (at_start hosts) new) → IfSome (told e) (λ f. site_read hosts rules ≡ Err f)
  merge_refused rules (Ok made) e is stops = absurd (cc)
  merge_refused rules (Err (Failed call)) e is stops = let same_fault : Memory ≡ e = (cc) in subst (λ (x : Fault). IfSome (told x) (λ f. site_read hosts rules ≡ Err f)) same_fault tt
  merge_refused rules (Err TooLarge) e is stops = let same_fault : Memory ≡ e = (cc) in subst (λ (x : Fault). IfSome (told x) (λ f. site_read hosts rules ≡ Err f)) same_fault tt
  merge_refused rules (Err (Refused x)) e is stops =
      let same_fault : x ≡ e = (cc) in
      subst (λ (y : Fault). IfSome (told y) (λ f. site_read hosts rules ≡ Err f)) same_fault (if_told (told x) _ _ by stops)
    where
      by : (f : Fault) → IsMergeFault hosts rules (at_start hosts) new f → site_read hosts rules ≡ Err f
      by f (inl refused) = begun_refused hosts rules f refused.0
      by f (inr (inl (begun, is, fault, reads))) =
          inventories_refused hosts rules begun f is (same.inventories_refused hosts all new own begun.hosts (omega (arith, begun_each hosts rules begun is)) f fault)
      by f (inr (inr changed)) = absurd (same.none_changed hosts all new own rules f changed)

  module _ (rules : SiteRules) (cost : Cost) (h : HasMerged hosts rules (at_start hosts) new cost) where
    abbrev site : WholeSite
    site = record { hosts = h.are; joined = h.begun.joined }

    each_one : length h.second ≡ length hosts
    each_one = h.second_read.one_each ∙ begun_each hosts rules h.begun h.begun_is

    pub site_was_read : site_read hosts rules ≡ Ok site
    site_was_read =
        let is = same.twice hosts all new own h.first h.second h.readings each_one in
        site_is hosts rules h.begun h.are h.begun_is (ap (λ ts. each site_of (loaded_from h.begun.hosts ts)) (sym is) ∙ h.second_read.accepted)

    same_hosts : h.begun.hosts ≡ hosts_in site
    same_hosts = (hosts_held h.begun.hosts h.second h.are h.second_read.one_each h.second_read.accepted).0

    pub own_files : List NamedText
    own_files = host_files h.begun.joined h.is_correct.mappings hosts h.begun.hosts

    pub are_site_files : (files : SiteFiles) → files.outcome ≡ h.outcome → files.own.items ≡ own_files → AreSiteFiles hosts site files
    unfolding own_files
    are_site_files files outcome_is own_are =
        let made : SiteFiles = record { outcome = h.outcome; own = files.own } in
        let same_files : made ≡ files = ap (λ (o : Outcome). record files { outcome = o }) (sym outcome_is) in
        subst (AreSiteFiles hosts site) same_files
        (record {
          is_right = h.is_right;
          is_correct = h.is_correct;
          own_files = h.own_files;
          own_are = own_are ∙ ap (host_files h.begun.joined h.is_correct.mappings hosts) same_hosts;
        })

    a_plan_each : length h.outcome.plans ≡ length hosts
    a_plan_each =
        ap length h.is_right.printed.plans ∙ plans_each (hosts_in site) h.begun.joined h.is_right.mappings 0 (map (λ (x : Host × List Entry). x.1) h.are) ∙ length-map h.are (λ (x : Host × List Entry). x.1)
        ∙ sym (length-map h.are (λ (x : Host × List Entry). x.0)) ∙ sym (ap length same_hosts) ∙ begun_each hosts rules h.begun h.begun_is

    pub parted : (files : List NamedText) → files ≡ new.finished → ArePartedFor h.outcome.keeps_names (length hosts) files h.outcome.plans own_files
    unfolding own_files
    parted files are = record {
      first = first_files h.outcome;
      first_are = first_each h.outcome.keeps_names h.outcome;
      planned = plan_files hosts h.outcome.plans;
      a_plan_each = planned_each hosts h.outcome.plans a_plan_each;
      plans_are = planned_texts hosts h.outcome.plans a_plan_each;
      report = report_file h.outcome;
      files_are = are ∙ ap (λ (l : Ledger). l.finished) h.files;
    }

  -- what was made of it
  module _ (rules : SiteRules) (made : Outcome) (h : HasMade hosts rules (at_start hosts) new made) where
    pub made_parted : (files : List NamedText) → files ≡ new.finished → ArePartedFor made.keeps_names (length hosts) files h.merged.outcome.plans (own_files rules made.cost h.merged)
    made_parted files are =
        subst (λ keeps. ArePartedFor keeps (length hosts) files h.merged.outcome.plans (own_files rules made.cost h.merged)) (ap (λ (o : Outcome). o.keeps_names) h.outcome_is)
        (parted rules made.cost h.merged files are)

    pub made_site : (files : SiteFiles) → files.outcome ≡ record made { plans = h.merged.outcome.plans } → files.own.items ≡ own_files rules made.cost h.merged → (x : WholeSite) × (site_read hosts rules ≡ Ok x) × AreSiteFiles hosts x files
    made_site files outcome_is own_are = (site rules made.cost h.merged, site_was_read rules made.cost h.merged, are_site_files rules made.cost h.merged files (outcome_is ∙ sym h.outcome_is) own_are)

pub answered_ok : {X : Type 0} (P : X → Type 0) (result : Result X MergeFault) (x : X) → in_memory result ≡ Ok x → IfOk result P → P x
answered_ok P (Ok y) x is p = subst P (ok_same y x is) p
answered_ok P (Err (Failed e)) x is p = absurd (cc)
answered_ok P (Err TooLarge) x is p = absurd (cc)
answered_ok P (Err (Refused e)) x is p = absurd (cc)
