-- What was read is the texts, and so what is said of it is said of them.
use Rattle.std.proofs.Common.{◌≡◌, ℕ, ◌≤◌, List, [], ◌∷◌, ◌++◌, length, take, Some, None, Result, Ok, Err, refl, sym, ap, subst, ◌∙◌, arith, inl, inr, append-nil}
use Rattle.std.specs.List.{All, slice_get}
use Rattle.std.proofs.lemmas.List.{length-map}
use Rattle.std.proofs.lemmas.List.Elements.{All-head}
use Rattle.std.specs.Option.{option_map}
use Rattle.std.proofs.lemmas.Option.{same_Some, slice_get-map, slice_get_within}
use Rattle.idtext.specs.First.{each}
use Rattle.idtext.specs.declared.faults.TextFault.{TextFault}
use Rattle.idtext.proofs.OkLemmas.{bind_ok, ok_same}
use Rattle.mtree_inv.specs.Inventory.{inventory_of_lines}
use Rattle.mtree_inv.specs.Logical.{whole_lines}
use Rattle.mtree_inv.specs.declared.entry.Entry.{Entry}
use Rattle.mtree_inv.proofs.StandLemmas.{whole_lines_refused}
use Rattle.hosts_join.specs.Checks.{hosts_checked}
use Rattle.hosts_join.specs.declared.host.Host.{Host}
use Rattle.hosts_join.specs.declared.texts.HostText.{HostText}
use Rattle.unify_texts.specs.declared.bundle_line.FileName.TheVariants as file
use Rattle.unify_texts.specs.declared.fault.Fault.{Fault}
use Rattle.site_tables.specs.declared.rules.KeepRules.{KeepRules}
use Rattle.site_tables.specs.declared.rules.SiteRules.{SiteRules}
use Rattle.site_tables.specs.Mapped.{BegunCost, cost_begun, mapped_names}
use Rattle.unify.specs.Count.{site_of}
use Rattle.site_tables.specs.Hosts.{files_of, lines_of}
use Rattle.site_tables.specs.Loading.{loaded_from}
use Rattle.site_tables.specs.Others.{others_loaded, pinned_site}
use Rattle.site_tables.specs.Begun.{BegunSite, site_begun}
use Rattle.unify.specs.Passes.{is_read}
use Rattle.unify.specs.SecondPass.{or_changed}
use Rattle.site_tables.specs.Survey.{inventory_of, listed_of}
use Rattle.unify_texts.specs.Told.{in_file}
use Rattle.site_tables.specs.Told.{in_site}
use Rattle.site_tables.proofs.ReadSites.{as-many-others}
use Rattle.site_tables.proofs.Surveys.{list_refused_at}
use Rattle.unify.proofs.Whole.{hosts_held}
use Rattle.unify_laws.specs.Texts.{mtrees}
use Rattle.unify_laws.proofs.Agreeing.{item_at}
use Rattle.unify_laws.proofs.OnePiece.{accepted_at, lines_refused, read_refused, refused_at}
use Rattle.unify_merge.specs.FirstReading.{HasRead, IsFirstFault, IsInventoryFault, IsReading, readings_from, with_inventories}
use Rattle.unify_merge.specs.Ledger.{Ledger, Reading, nothing}
use Rattle.unify_merge.specs.Merge.{AreInventories, IsSecondFault}
use Rattle.unify_merge.specs.SecondReading.{IsChange}
use Rattle.unify_merge.specs.Survey.{IsReadFault, IsSurveyFault}
use Rattle.unify_merge.proofs.Fronts.{front_all, lines_on, lines_owned}
use Rattle.unify_bundle.specs.TextFiles.{IsOf, ReadsTexts, ledger_of}
use Rattle.unify_bundle.proofs.InMemory.{back_all, read_again, read_all_again, so_far_again}

-- ---- one inventory

-- a fault of the lines of an inventory is its own
unlisted : (host : Host) (text : List ℕ) (f : Fault) → is_read (lines_of host text) ≡ Err f → inventory_of host text ≡ Err f
unlisted host text f h = by (inventory_of_lines 16777216 (whole_lines text)) refl h
  where
    by : (r : Result (List Entry) TextFault) → inventory_of_lines 16777216 (whole_lines text) ≡ r → is_read (in_file host.name file.Mtree r) ≡ Err f → inventory_of host text ≡ Err f
    by (Ok files) e none = absurd (cc)
    by (Err t) e bad = rw (whole_lines_refused 16777216 text t e) (read_refused (in_file {X = List Entry} host.name file.Mtree (Err t)) f bad)

-- ---- as many hosts as texts

pub begun_each : (texts : List HostText) (rules : SiteRules) (begun : BegunSite) → site_begun texts rules ≡ Ok begun → length begun.hosts ≡ length texts
unfolding site_begun
begun_each texts rules begun is =
    let listed = bind_ok (in_site (hosts_checked texts)) _ begun is in
    let others = bind_ok (others_loaded texts rules.keep) _ begun listed.2 in
    let joining = bind_ok (pinned_site others.0 rules.pins) _ begun others.2 in
    let made : BegunSite = record { hosts = others.0.hosts; joined = joining.0 } in
    ap (λ (b : BegunSite). length b.hosts) (sym (ok_same made begun joining.2)) ∙ as-many-others texts rules.keep others.0 others.1

pub costed_each : (texts : List HostText) (keep : KeepRules) (map_text : List ℕ) (begun : BegunCost) → cost_begun texts keep map_text ≡ Ok begun → length begun.hosts ≡ length texts
unfolding cost_begun
costed_each texts keep map_text begun is =
    let listed = bind_ok (in_site (hosts_checked texts)) _ begun is in
    let others = bind_ok (others_loaded texts keep) _ begun listed.2 in
    let named = bind_ok (mapped_names map_text others.0.hosts) _ begun others.2 in
    let made : BegunCost = record { hosts = others.0.hosts; names = named.0 } in
    ap (λ (b : BegunCost). length b.hosts) (sym (ok_same made begun named.2)) ∙ as-many-others texts keep others.0 others.1

-- ---- the texts

pub own_inventories : (hosts : List HostText) → with_inventories hosts (mtrees hosts) ≡ hosts
own_inventories [] = refl
own_inventories (h ∷ hosts) = ap (λ hs. h ∷ hs) (own_inventories hosts)

-- the ledger before anything is done
abbrev pub at_start : List HostText → Ledger
at_start hosts = ledger_of (record { texts = mtrees hosts; done = nothing; failure = None })

module _ (hosts : List HostText) (all : List (List ℕ)) where
  abbrev mine : List (List ℕ)
  mine = mtrees hosts

  each_mine : length mine ≡ length hosts
  each_mine = length-map hosts (λ (t : HostText). t.mtree)

  -- what was read before is the texts
  first_mine : (texts : List (List ℕ)) (more : List Reading) → All (IsOf all) (((at_start hosts).read ++ readings_from 0 texts) ++ more) → All (IsOf all) (readings_from 0 mine) × All (IsOf all) (readings_from 0 texts)
  first_mine texts more are =
      let before = (at_start hosts).read in
      let read = front_all (IsOf all) (before ++ readings_from 0 texts) more are in
      (front_all (IsOf all) (readings_from 0 mine) [] (front_all (IsOf all) before (readings_from 0 texts) read), back_all (IsOf all) before (readings_from 0 texts) read)

  module _ (new : Ledger) (own : ReadsTexts all new) where
    were : (before : List Reading) → new.read ≡ before → All (IsOf all) before
    were before is = subst (All (IsOf all)) is own.whole

    -- each was read once
    pub once : (texts : List (List ℕ)) → new.read ≡ (at_start hosts).read ++ readings_from 0 texts → length texts ≡ length hosts → texts ≡ mine
    once texts readings each_one =
        let both = first_mine texts [] (subst (All (IsOf all)) (sym (append-nil ((at_start hosts).read ++ readings_from 0 texts))) (were _ readings)) in
        read_all_again all mine texts both.0 both.1 (each_one ∙ sym each_mine)

    -- the first of them were, and then one more as far as it came
    module _ (hs : List Host) (few : length hs ≤ length hosts) (texts : List (List ℕ)) (host : Host) (here : slice_get hs (length texts) ≡ Some host) where
      abbrev index : ℕ
      index = length texts

      abbrev before : List Reading
      before = (at_start hosts).read ++ readings_from 0 texts

      own_text : (text : List ℕ) × (slice_get mine index ≡ Some text)
      own_text = item_at mine index (omega (arith, slice_get_within hs index host here, few, each_mine))

      fronts : (more : List Reading) → new.read ≡ before ++ more → texts ≡ take index mine
      fronts more readings =
          let both = first_mine texts more (were _ readings) in
          read_again all mine texts 0 both.0 both.1 (omega (arith, slice_get_within hs index host here, few, each_mine))

      -- of what goes on the front came
      pub goes_on : (text : List ℕ) → IsReading before index text new → (rest : List ℕ) × (slice_get mine index ≡ Some (text ++ rest)) × (texts ≡ take index mine)
      goes_on text reading =
          let nil : new.read ≡ before ++ [] = reading.0 ∙ sym (append-nil before) in
          let both = first_mine texts [] (were _ nil) in
          let front = own.so_far (record { host = index; text = text }) reading.1 in
          let same : own_text.0 ≡ text ++ front.0 = so_far_again all mine index own_text.0 text front.0 both.0 own_text.1 front.1 in
          (front.0, own_text.1 ∙ ap (λ t. Some t) same, fronts [] nil)

      -- of what was read all came
      pub came : (text : List ℕ) → HasRead before index text new → (slice_get mine index ≡ Some text) × (texts ≡ take index mine)
      came text readings =
          let last : List Reading = record { host = index; text = text } ∷ [] in
          let both = first_mine texts last (were _ readings) in
          let is : IsOf all (record { host = index; text = text }) = All-head (IsOf all) (record { host = index; text = text }) [] (back_all (IsOf all) before last (were _ readings)) in
          let same : own_text.0 ≡ text ++ [] = so_far_again all mine index own_text.0 text [] both.0 own_text.1 (is ∙ ap (λ t. Some t) (sym (append-nil text))) in
          (own_text.1 ∙ ap (λ t. Some t) (same ∙ append-nil text), fronts last readings)

      -- a fault of it is the first of all
      pub refused : (read : List (Host × List Entry)) → each site_of (loaded_from hs texts) ≡ Ok read → (f : Fault) → IsFirstFault host index before new f → each site_of (loaded_from hs mine) ≡ Err f
      refused read accepted f (text, inl (reading, bad)) =
          let at = goes_on text reading in
          refused_at hs mine read index host (text ++ at.0) f (ap (λ ts. each site_of (loaded_from hs ts)) (sym at.2) ∙ accepted) here at.1 (lines_refused host (text ++ at.0) f (lines_on host text at.0 f bad))
      refused read accepted f (text, inr (readings, bad)) =
          let at = came text readings in
          refused_at hs mine read index host text f (ap (λ ts. each site_of (loaded_from hs ts)) (sym at.1) ∙ accepted) here at.0 bad

    pub inventories_refused : (hs : List Host) → length hs ≤ length hosts → (f : Fault) → IsInventoryFault hs (at_start hosts) new f → each site_of (loaded_from hs mine) ≡ Err f
    inventories_refused hs few f fault = refused hs few fault.texts fault.host fault.here fault.read fault.accepted f fault.fault

    -- ---- a survey

    listed_refused : (hs : List Host) (few : length hs ≤ length hosts) (texts : List (List ℕ)) (host : Host) (here : slice_get hs (length texts) ≡ Some host) (listed : List (Host × List Entry)) → each listed_of (loaded_from hs texts) ≡ Ok listed
        → (f : Fault) → IsReadFault host (length texts) ((at_start hosts).read ++ readings_from 0 texts) new f → each listed_of (loaded_from hs mine) ≡ Err f
    listed_refused hs few texts host here listed are f (text, inl (reading, bad)) =
        let at = goes_on hs few texts host here text reading in
        list_refused_at hs mine listed (length texts) host (text ++ at.0) f (ap (λ ts. each listed_of (loaded_from hs ts)) (sym at.2) ∙ are) here at.1 (unlisted host (text ++ at.0) f (lines_on host text at.0 f bad))
    listed_refused hs few texts host here listed are f (text, inr (readings, bad)) =
        let at = came hs few texts host here text readings in
        list_refused_at hs mine listed (length texts) host text f (ap (λ ts. each listed_of (loaded_from hs ts)) (sym at.1) ∙ are) here at.0 (read_refused (inventory_of host text) f bad)

    pub survey_refused : (hs : List Host) → length hs ≤ length hosts → (f : Fault) → IsSurveyFault hs (at_start hosts) new f → each listed_of (loaded_from hs mine) ≡ Err f
    survey_refused hs few f fault = listed_refused hs few fault.texts fault.host fault.here fault.listed fault.are_listed f fault.fault

    pub surveyed_once : (hs : List Host) (few : length hs ≤ length hosts) (texts : List (List ℕ)) → length texts ≡ length hs → new.read ≡ (at_start hosts).read ++ readings_from 0 texts → texts ≡ take (length hs) mine
    surveyed_once hs few texts each_one readings =
        let both = first_mine texts [] (subst (All (IsOf all)) (sym (append-nil ((at_start hosts).read ++ readings_from 0 texts))) (were _ readings)) in
        read_again all mine texts 0 both.0 both.1 (omega (arith, each_one, few, each_mine)) ∙ ap (λ n. take n mine) each_one

    -- ---- the second reading

    -- both readings are of the texts
    pub twice : (first second : List (List ℕ)) → new.read ≡ ((at_start hosts).read ++ readings_from 0 first) ++ readings_from 0 second → length second ≡ length hosts → second ≡ mine
    twice first second readings each_one =
        let both = first_mine first (readings_from 0 second) (were _ readings) in
        read_all_again all mine second both.0 (back_all (IsOf all) ((at_start hosts).read ++ readings_from 0 first) (readings_from 0 second) (were _ readings)) (each_one ∙ sym each_mine)

    -- so none has changed
    module _ (begun : BegunSite) (first : List (List ℕ)) (read : List (Host × List Entry)) (was : AreInventories begun.hosts first read) (texts : List (List ℕ)) (host : Host) (files : List Entry) (here : slice_get read (length texts) ≡ Some (host, files)) where
      abbrev behind : List Reading
      behind = ((at_start hosts).read ++ readings_from 0 first) ++ readings_from 0 texts

      first_host : Host × List Entry → Host
      first_host h = h.0

      host_here : slice_get begun.hosts (length texts) ≡ Some host
      unfolding first_host
      host_here =
          ap (λ hs. slice_get hs (length texts)) (hosts_held begun.hosts first read was.one_each was.accepted).0
          ∙ slice_get-map (λ (h : Host × List Entry). h.0) read (length texts) ∙ ap (option_map (λ (h : Host × List Entry). h.0)) here

      whole : (text : List ℕ) × (slice_get first (length texts) ≡ Some text)
      whole = item_at first (length texts) (omega (arith, slice_get_within begun.hosts (length texts) host host_here, was.one_each))

      accepted : files_of (record { host = host; mtree = whole.0 }) ≡ Ok files
      accepted =
          let at = accepted_at begun.hosts first read (length texts) host whole.0 was.accepted host_here whole.1 in
          let same : (host, at.0) ≡ (host, files) = same_Some (host, at.0) (host, files) (sym at.2 ∙ here) in
          at.1 ∙ (λ j. Ok (same j).1)

      read_first : (more : List Reading) → new.read ≡ behind ++ more → All (IsOf all) (readings_from 0 first)
      read_first more readings =
          let before = (at_start hosts).read in
          back_all (IsOf all) before (readings_from 0 first) (front_all (IsOf all) (before ++ readings_from 0 first) (readings_from 0 texts) (front_all (IsOf all) behind more (were _ readings)))

      pub unchanged : IsChange host files (length texts) behind new → ⊥
      unchanged (text, inl (reading, g, bad)) =
          let front = own.so_far (record { host = length texts; text = text }) reading.1 in
          let same : whole.0 ≡ text ++ front.0 = so_far_again all first (length texts) whole.0 text front.0 (read_first [] (reading.0 ∙ sym (append-nil behind))) whole.1 front.1 in
          let fine = lines_owned host text front.0 files (ap (λ m. files_of (record { host = host; mtree = m })) (sym same) ∙ accepted) in
          let no : ◌≡◌ {A = Result (Unit {0}) Fault} (Ok tt) (Err g) = sym fine ∙ bad in
          absurd (cc)
      unchanged (text, inr (readings, changed)) =
          let last : List Reading = record { host = length texts; text = text } ∷ [] in
          let is : IsOf all (record { host = length texts; text = text }) = All-head (IsOf all) (record { host = length texts; text = text }) [] (back_all (IsOf all) behind last (were _ readings)) in
          let same : whole.0 ≡ text ++ [] = so_far_again all first (length texts) whole.0 text [] (read_first last readings) whole.1 (is ∙ ap (λ t. Some t) (sym (append-nil text))) in
          changed files (ap (or_changed host) (ap (λ m. files_of (record { host = host; mtree = m })) (sym (same ∙ append-nil text)) ∙ accepted)) refl

    pub none_changed : (rules : SiteRules) (f : Fault) → IsSecondFault hosts rules (at_start hosts) new f → ⊥
    none_changed rules f fault = unchanged fault.begun fault.first fault.were fault.first_read fault.change.texts fault.change.host fault.change.were fault.change.here fault.change.change.1
