-- The files of a merge come in turn.
use Rattle.std.proofs.Common.{◌≡◌, ◌≢◌, ◌≤◌, ◌<◌, ◌+◌, ◌++◌, ◌∷◌, [], ℕ, zero, suc, Bool, true, false, cond, List, All, Some, length, drop, map, get_or, codes, refl, sym, ap, subst, ◌∙◌, arith, ◌⊎◌, inl, inr, ⊎_elim, append_assoc, append-nil, length-append, length-drop}
use Rattle.std.specs.List.{slice_get}
use Rattle.std.proofs.Math.Nat.{eq-or-lt_of_le}
use Rattle.std.proofs.lemmas.List.{length-map}
use Rattle.std.proofs.lemmas.List.Elements.{All-append, All-cons, All-contains, All-head, All-nil, All-tail}
use Rattle.std.proofs.lemmas.Option.{get_or_from_slice_get, slice_get_within}
use Rattle.idtext.proofs.OkLemmas.{length-each}
use Rattle.mtree_inv.specs.declared.entry.Entry.{Entry}
use Rattle.hosts_join.specs.Site.{Joined}
use Rattle.hosts_join.specs.declared.host.Host.{Host}
use Rattle.hosts_join.specs.declared.texts.HostText.{HostText}
use Rattle.ownership.specs.declared.mapping.Mappings.{Mappings}
use Rattle.unify.specs.Count.{site_of}
use Rattle.site_tables.specs.Loading.{loaded_from}
use Rattle.unify.specs.Outcomes.{hosts_in, plan_texts, plan_texts_from}
use Rattle.unify.specs.Reading.{WholeSite}
use Rattle.unify.specs.declared.outcome.Outcome.{Outcome}
use Rattle.site_tables.specs.declared.rules.SiteRules.{SiteRules}
use Rattle.unify.specs.declared.site_files.NamedText.{NamedText}
use Rattle.site_tables.proofs.LoadedFrom.{length-loaded_from}
use Rattle.site_tables.proofs.ReadSites.{as-many-others}
use Rattle.unify_laws.specs.HostTexts.{host_files}
use Rattle.unify_laws.proofs.HostTexts.{BegunSteps, begun_steps}
use Rattle.unify_merge.specs.InTurn.{LeavesAll, MergesLeaveReports, PlansComeInTurn, ReportIsLast, ReportsStandWithAll}
use Rattle.unify_merge.specs.Ledger.{Ledger}
use Rattle.unify_merge.specs.Merge.{MergeBrokeOff, first_files, merged_files, report_file}
use Rattle.unify_merge.specs.NamedFiles.{Have}
use Rattle.unify_merge.specs.SecondReading.{plan_files, plan_name}
use Rattle.unify_merge.proofs.FileNames.{differ_at, names_differ, own_all, plans_all, same_behind_plan}
use Rattle.unify_merge.proofs.NamedFiles.{files_have_their_names}
use Rattle.unify_merge.proofs.Settled.{merges-settled}

-- ---- the first items of a list

module _ {X : Type 0} (P : X → Type 0) where
  -- they are all, or not the last
  but_last : (before : List X) (x : X) (first left : List X) → before ++ x ∷ [] ≡ first ++ left → All P before → (left ≡ []) ⊎ All P first
  but_last before x [] left same all = inr (All-nil P)
  but_last [] x (y ∷ []) left same all =
      let none : left ≡ [] = (cc) in
      inl none
  but_last [] x (y ∷ z ∷ first) left same all = absurd (cc)
  but_last (b ∷ before) x (y ∷ first) left same all =
      let head : b ≡ y = (cc) in
      let tail : before ++ x ∷ [] ≡ first ++ left = (cc) in
      ⊎_elim inl (λ rest. inr (All-cons P y first (subst P head (All-head P b before all)) rest)) (but_last before x first left tail (All-tail P b before all))

  -- beyond those in front
  beyond : (front back first left : List X) → front ++ back ≡ first ++ left → All P front
      → ((more : List X) → back ≡ more ++ left → length first ≡ length front + length more → All P more) → All P first
  beyond [] back first left same all rest = rest first same (omega arith)
  beyond (x ∷ front) back [] left same all rest = All-nil P
  beyond (x ∷ front) back (y ∷ first) left same all rest =
      let head : x ≡ y = (cc) in
      let tail : front ++ back ≡ first ++ left = (cc) in
      All-cons P y first (subst P head (All-head P x front all)) (beyond front back first left tail (All-tail P x front all) (λ more is long. rest more is (omega (arith, long))))

-- ---- names

abbrev Named : (List ℕ → Type 0) → NamedText → Type 0
Named P file = P file.name

-- none of them is this one
abbrev Other : List ℕ → List ℕ → Type 0
Other n name = n ≢ name

module _ (P : List ℕ → Type 0) (outcome : Outcome) where
  abbrev passwd : NamedText
  passwd = record { name = codes "passwd"; text = outcome.passwd }

  abbrev group : NamedText
  group = record { name = codes "group"; text = outcome.group }

  abbrev mapped : NamedText
  mapped = record { name = codes "map"; text = outcome.map }

  abbrev certificate : NamedText
  certificate = record { name = codes "certificate"; text = outcome.certificate }

  accounts_named : (keeps : Bool) → P (codes "passwd") → P (codes "group") → All (Named P) (cond keeps [] (passwd ∷ group ∷ []))
  accounts_named true one two = All-nil (Named P)
  accounts_named false one two = All-cons (Named P) passwd (group ∷ []) one (All-cons (Named P) group [] two (All-nil (Named P)))

  first_named : P (codes "passwd") → P (codes "group") → P (codes "map") → P (codes "certificate") → All (Named P) (first_files outcome)
  first_named one two three four =
      All-append (Named P) (cond outcome.keeps_names [] (passwd ∷ group ∷ [])) (mapped ∷ certificate ∷ []) (accounts_named outcome.keeps_names one two)
      (All-cons (Named P) mapped (certificate ∷ []) three (All-cons (Named P) certificate [] four (All-nil (Named P))))

-- no more than this many plans
plans_first : (P : List ℕ → Type 0) (hosts : List HostText) (plans : List (List ℕ)) (ends more left : List NamedText) (k : ℕ) → plan_files hosts plans ++ ends ≡ more ++ left → length more ≤ k → k ≤ length (plan_files hosts plans)
    → ((j : ℕ) (d : HostText) → j < k → P (codes "plan." ++ (get_or hosts j d).name)) → All (Named P) more
plans_first P hosts plans ends [] left k same few all each = All-nil (Named P)
plans_first P hosts plans ends (f ∷ more) left zero same few all each = absurd (omega (arith, few))
plans_first P [] plans ends (f ∷ more) left (suc k) same few all each = absurd (omega (arith, all))
plans_first P (h ∷ hosts) [] ends (f ∷ more) left (suc k) same few all each = absurd (omega (arith, all))
plans_first P (h ∷ hosts) (p ∷ plans) ends (f ∷ more) left (suc k) same few all each =
    let head : ◌≡◌ {A = NamedText} (record { name = plan_name h; text = p }) f = (cc) in
    let tail : plan_files hosts plans ++ ends ≡ more ++ left = (cc) in
    All-cons (Named P) f more (subst (Named P) head (each 0 h (omega arith)))
    (plans_first P hosts plans ends more left k tail (omega (arith, few)) (omega (arith, all)) (λ j d less. each (suc j) d (omega (arith, less))))

-- ---- the report

pub report-is-last : ReportIsLast
report-is-last texts begun m outcome first left text same has =
    let n = codes "report" in
    let plans = plan_files texts outcome.plans in
    let own = host_files begun.joined m texts begun.hosts in
    let report = report_file outcome in
    let before = first_files outcome ++ (plans ++ own) in
    let is : before ++ report ∷ [] ≡ first ++ left = append_assoc (first_files outcome) (plans ++ own) (report ∷ []) ∙ ap (λ fs. first_files outcome ++ fs) (append_assoc plans own (report ∷ [])) ∙ same in
    let others : All (Named (Other n)) before =
    All-append (Named (Other n)) (first_files outcome) (plans ++ own)
    (first_named (Other n) outcome (differ_at 0 n (codes "passwd") refl) (differ_at 0 n (codes "group") refl) (differ_at 0 n (codes "map") refl) (differ_at 0 n (codes "certificate") refl))
    (All-append (Named (Other n)) plans own (plans_all (Other n) texts outcome.plans (λ k d within. differ_at 0 n (codes "plan." ++ (get_or texts k d).name) refl))
    (own_all begun.joined m (Other n) texts begun.hosts (λ k d within. differ_at 0 n (codes "passwd." ++ (get_or texts k d).name) refl) (λ k d within. differ_at 0 n (codes "group." ++ (get_or texts k d).name) refl))) in
    ⊎_elim (λ none. none) (λ all. absurd (All-contains (Named (Other n)) first (record { name = n; text = text }) all has refl)) (but_last (Named (Other n)) before report first left is others)

pub merges-leave-reports : MergesLeaveReports
merges-leave-reports texts rules old new cost merged =
    let files = merged_files texts merged.begun merged.is_correct.mappings merged.outcome in
    subst (λ fs. Have fs (codes "report") merged.outcome.report) (sym (merges-settled texts rules old new cost merged).finished)
    (files_have_their_names texts merged.begun merged.is_correct.mappings merged.outcome).report

-- ---- a merge that broke off

length-plan_texts_from : (hosts : List Host) (site : Joined) (m : Mappings) (index : ℕ) (files : List (List Entry)) → length (plan_texts_from hosts site m index files) ≡ length files
length-plan_texts_from hosts site m index [] = refl
length-plan_texts_from hosts site m index (f ∷ files) = ap suc (length-plan_texts_from hosts site m (index + 1) files)

length-plan_texts : (site : WholeSite) (m : Mappings) → length (plan_texts site m) ≡ length site.hosts
length-plan_texts site m = length-plan_texts_from (hosts_in site) site.joined m 0 (map (λ h. h.1) site.hosts) ∙ length-map site.hosts (λ h. h.1)

length-plan_files : (names : List HostText) (plans : List (List ℕ)) → length plans ≡ length names → length (plan_files names plans) ≡ length names
length-plan_files [] plans same = refl
length-plan_files (n ∷ names) [] same = absurd (omega (arith, same))
length-plan_files (n ∷ names) (p ∷ plans) same = ap suc (length-plan_files names plans (omega (arith, same)))

module _ (texts : List HostText) (rules : SiteRules) (old new : Ledger) (b : MergeBrokeOff texts rules old new) where
  steps : BegunSteps texts rules b.begun
  steps = begun_steps texts rules b.begun b.begun_is

  stands : new.finished ≡ b.files.whole
  stands = ap (λ (l : Ledger). l.finished) b.files.stands

  each_host : length b.begun.hosts ≡ length texts
  each_host = sym (ap length steps.hosts) ∙ as-many-others texts rules.keep steps.others steps.others_are

  each_plan : length (plan_files texts b.outcome.plans) ≡ length texts
  each_plan =
      let read = b.again ++ drop (length b.again) b.first in
      let last : length b.last ≡ length texts = length-each site_of (loaded_from b.begun.hosts read) b.last b.last_read.accepted ∙ length-loaded_from b.begun.hosts read b.last_read.one_each ∙ each_host in
      let plans : length b.outcome.plans ≡ length b.last = ap length b.is_right.printed.plans ∙ length-plan_texts (record { hosts = b.last; joined = b.begun.joined }) b.is_right.mappings in
      length-plan_files texts b.outcome.plans (plans ∙ last)

  -- while the inventory of a host was not read again, only those of the site stand and the plans of the hosts before it
  begins : (P : List ℕ → Type 0) → P (codes "passwd") → P (codes "group") → P (codes "map") → P (codes "certificate") → ((j : ℕ) (d : HostText) → j < length b.again → P (codes "plan." ++ (get_or texts j d).name))
      → length b.again < length texts → All (Named P) b.files.whole
  begins P passwd group map certificate plans less =
      let in_front = first_files b.outcome in
      let ends = host_files b.begun.joined b.is_correct.mappings texts b.begun.hosts ++ report_file b.outcome ∷ [] in
      let left = b.files.next ++ b.files.left in
      beyond (Named P) in_front (plan_files texts b.outcome.plans ++ ends) b.files.whole left b.files.are (first_named P b.outcome passwd group map certificate)
      (λ more is long. plans_first P texts b.outcome.plans ends more left (length b.again) is (omega (arith, long, b.in_turn less)) (omega (arith, less, each_plan)) plans)

  -- so this name is none of theirs
  none_stands : (n text : List ℕ) → n ≢ codes "passwd" → n ≢ codes "group" → n ≢ codes "map" → n ≢ codes "certificate" → ((j : ℕ) (d : HostText) → j < length b.again → n ≢ codes "plan." ++ (get_or texts j d).name)
      → length b.again < length texts → Have new.finished n text → ⊥
  none_stands n text passwd group map certificate plans less has =
      All-contains (Named (Other n)) b.files.whole (record { name = n; text = text }) (begins (Other n) passwd group map certificate plans less) (subst (λ fs. Have fs n text) stands has) refl

  no_report : (text : List ℕ) → length b.again < length texts → Have new.finished (codes "report") text → ⊥
  no_report text less has =
      let n = codes "report" in
      none_stands n text (differ_at 0 n (codes "passwd") refl) (differ_at 0 n (codes "group") refl) (differ_at 0 n (codes "map") refl) (differ_at 0 n (codes "certificate") refl)
      (λ j d before. differ_at 0 n (codes "plan." ++ (get_or texts j d).name) refl) less has

  no_passwd : (name text : List ℕ) → length b.again < length texts → Have new.finished (codes "passwd." ++ name) text → ⊥
  no_passwd name text less has =
      let n = codes "passwd." ++ name in
      none_stands n text (differ_at 6 n (codes "passwd") refl) (differ_at 0 n (codes "group") refl) (differ_at 0 n (codes "map") refl) (differ_at 0 n (codes "certificate") refl)
      (λ j d before. differ_at 1 n (codes "plan." ++ (get_or texts j d).name) refl) less has

  no_group : (name text : List ℕ) → length b.again < length texts → Have new.finished (codes "group." ++ name) text → ⊥
  no_group name text less has =
      let n = codes "group." ++ name in
      none_stands n text (differ_at 0 n (codes "passwd") refl) (differ_at 5 n (codes "group") refl) (differ_at 0 n (codes "map") refl) (differ_at 0 n (codes "certificate") refl)
      (λ j d before. differ_at 0 n (codes "plan." ++ (get_or texts j d).name) refl) less has

  no_plan : (h : ℕ) (host : HostText) (plan : List ℕ) → slice_get texts h ≡ Some host → length b.again ≤ h → Have new.finished (plan_name host) plan → ⊥
  no_plan h host plan here late has =
      let n = codes "plan." ++ host.name in
      let within : h < length texts = slice_get_within texts h host here in
      let apart = names_differ texts steps.listed steps.listed_are in
      none_stands n plan (differ_at 1 n (codes "passwd") refl) (differ_at 0 n (codes "group") refl) (differ_at 0 n (codes "map") refl) (differ_at 0 n (codes "certificate") refl)
      (λ j d before same. apart j h d (omega (arith, before, late)) within (sym (same_behind_plan host.name (get_or texts j d).name same) ∙ ap (λ (t : HostText). t.name) (sym (get_or_from_slice_get texts h host d here))))
      (omega (arith, within, late)) has

  again_within : length b.again ≤ length texts
  again_within =
      let first = b.first in
      omega (arith, each_host, b.first_read.one_each, b.last_read.one_each, length-append b.again (drop (length b.again) first), length-drop (length b.again) first)

  leaves_all : (text : List ℕ) → Have new.finished (codes "report") text → LeavesAll texts rules old new b
  leaves_all text has =
      let files = merged_files texts b.begun b.is_correct.mappings b.outcome in
      let left : b.files.next ++ b.files.left ≡ [] = report-is-last texts b.begun b.is_correct.mappings b.outcome b.files.whole (b.files.next ++ b.files.left) text b.files.are (subst (λ fs. Have fs (codes "report") text) stands has) in
      record {
        again = ⊎_elim (λ same. same) (λ less. absurd (no_report text less has)) (eq-or-lt_of_le again_within);
        files = stands ∙ sym (append-nil b.files.whole) ∙ ap (λ fs. b.files.whole ++ fs) (sym left) ∙ sym b.files.are;
      }

pub reports-stand-with-all : ReportsStandWithAll
reports-stand-with-all = leaves_all

pub plans-come-in-turn : PlansComeInTurn
plans-come-in-turn texts rules old new b = record {
  plan = no_plan texts rules old new b;
  passwd = no_passwd texts rules old new b;
  group = no_group texts rules old new b;
}
