-- What a merge leaves that ended early.
use Rattle.std.proofs.Common.{◌≡◌, ◌≤◌, ◌<◌, ◌+◌, ◌++◌, ◌∷◌, [], ℕ, suc, List, length, drop, Some, Ok, refl, sym, ap, subst, ◌∙◌, arith, inl, inr, append-nil, length-append}
use Rattle.std.specs.Prelude.{◌⊎◌}
use Rattle.std.specs.List.{slice_get}
use Rattle.std.proofs.lemmas.List.{drop_all}
use Rattle.std.proofs.lemmas.Option.{same_Some, slice_get_within}
use Rattle.idtext.specs.First.{each}
use Rattle.mtree_inv.specs.declared.entry.Entry.{Entry}
use Rattle.hosts_join.specs.declared.host.Host.{Host}
use Rattle.hosts_join.specs.declared.texts.HostText.{HostText}
use Rattle.kept_accounts.specs.Reserving.{UnownedNumbers}
use Rattle.unify.specs.declared.outcome.Outcome.{Outcome}
use Rattle.site_tables.specs.declared.rules.SiteRules.{SiteRules}
use Rattle.unify.specs.declared.site_files.NamedText.{NamedText}
use Rattle.unify.specs.Count.{site_of}
use Rattle.site_tables.specs.Loading.{loaded_from}
use Rattle.unify.specs.Outcomes.{IsOutcome}
use Rattle.unify.specs.Reading.{WholeSite}
use Rattle.site_tables.specs.Rules.{rules_by}
use Rattle.unify.specs.SecondPass.{SolvedValue, whole_plan}
use Rattle.unify_laws.specs.Headline.{Headline}
use Rattle.unify_laws.specs.HostTexts.{host_files}
use Rattle.unify_laws.proofs.Agreeing.{item_at}
use Rattle.unify_laws.proofs.SecondReading.{second_reading_is_correct, second_reading_is_right}
use Rattle.unify_merge.specs.Ledger.{BrokeOff, Ledger, after_files, cleared}
use Rattle.unify_merge.specs.FirstReading.{ReadsOnly, readings_from}
use Rattle.unify_merge.specs.SecondReading.{ArePlanned, PlansBrokeOff, WereRead, plan_files, plan_name, plans_from}
use Rattle.unify_merge.specs.Merge.{HasSolved, Leaves, MergeBrokeOff, WritingBrokeOff, first_files, merged_files, report_file}
use Rattle.unify_merge.specs.Surveyed.{LeavesFiles, WereFound}
use Rattle.unify_merge.proofs.OwnFiles.{same_mappings}
use Rattle.unify_merge.proofs.AllPlanned.{read_len}
use Rattle.unify_merge.proofs.BreakingOff.{broken_as, broken_behind, broken_front, broken_plan, files_reading, reading_as, reads_same}
use Rattle.unify_merge.proofs.Planned.{none_first}
use Rattle.unify_merge.proofs.Readings.{reads_on}
use Rattle.unify_merge.proofs.ReadLast.{all_first, drop_from, last_accepted, last_again, last_one_each, last_plans, last_within}

-- ---- the files of plans

length-plan_files : (names : List HostText) (plans : List (List ℕ)) → length (plan_files names plans) ≤ length plans
length-plan_files [] plans = omega arith
length-plan_files (n ∷ names) [] = omega arith
length-plan_files (n ∷ names) (p ∷ plans) = omega (arith, length-plan_files names plans)

-- those before a host, its own, and those after it
plan_files_from : (names : List HostText) (plans more : List (List ℕ)) (name : HostText) (plan : List ℕ) → slice_get names (length plans) ≡ Some name
    → plan_files names (plans ++ plan ∷ more) ≡ plan_files names plans ++ (record { name = plan_name name; text = plan } ∷ plan_files (drop (suc (length plans)) names) more)
plan_files_from [] plans more name plan here = absurd (cc)
plan_files_from (n ∷ names) [] more name plan here =
    let same : n ≡ name = same_Some n name here in
    let named : HostText → List NamedText = λ x. record { name = plan_name x; text = plan } ∷ plan_files names more in
    ap named same
plan_files_from (n ∷ names) (p ∷ plans) more name plan here =
    let one : List NamedText → List NamedText = λ fs. record { name = plan_name n; text = p } ∷ fs in
    ap one (plan_files_from names plans more name plan here)

-- ---- what was being written

-- told: what was merged, as the second pass hands it out
module _ (names : List HostText) (s : SolvedValue) (read : List (Host × List Entry)) (told : Outcome) (old clear : Ledger) (same : told ≡ s.merged.outcome) (clears : clear ≡ cleared old) where
  -- those of each host, and the report
  abbrev last : List NamedText
  last = host_files s.joined s.merged.mappings names s.hosts ++ report_file s.merged.outcome ∷ []

  -- the first files broke off
  pub first_left : (new : Ledger) → BrokeOff (first_files told) clear new → WritingBrokeOff names s read old new
  unfolding none_first broken_front broken_as
  first_left new b =
      let site = none_first s read in
      let rest = plan_files names (site.plans ++ plans_from s 0 (drop 0 read)) ++ last in
      let ledger : clear ≡ reading_as new (cleared old) = reads_same (first_files told) clear new b ∙ ap (reading_as new) clears in
      let files : first_files told ++ rest ≡ first_files s.merged.outcome ++ rest = ap (λ (o : Outcome). first_files o ++ rest) same in
      let reads : new.read ≡ old.read = ap (λ (l : Ledger). l.read) b.stands ∙ ap (λ (l : Ledger). l.read) clears in
      let len : length (first_files s.merged.outcome) ≡ length (b.whole ++ (b.next ++ b.left)) = ap (λ (o : Outcome). length (first_files o)) (sym same) ∙ ap length b.are in
      record {
        index = 0;
        within = omega arith;
        site = site;
        reads = record { more = []; one_at_most = omega arith; readings = reads ∙ sym (append-nil old.read) ∙ sym (append-nil (old.read ++ [])) };
        files = broken_as (first_files told ++ rest) (first_files s.merged.outcome ++ rest) clear (reading_as new (cleared old)) new files ledger (broken_front (first_files told) rest clear new b);
        in_turn = λ _. omega (arith, len, length-append b.whole (b.next ++ b.left));
      }

  module _ (first : Ledger) (written : first ≡ after_files (first_files told) clear) (was : WereRead s read) (each_name : length names ≡ length s.hosts) where
    first_is : first ≡ after_files (first_files s.merged.outcome) (cleared old)
    first_is = written ∙ (λ j. after_files (first_files (same j)) (clears j))

    first_read : first.read ≡ old.read
    first_read = ap (λ (l : Ledger). l.read) first_is

    -- after them
    behind_first : (files : List NamedText) (new : Ledger) → BrokeOff files (reading_as new first) new → BrokeOff (first_files s.merged.outcome ++ files) (reading_as new (cleared old)) new
    behind_first files new b =
        let done = first_files s.merged.outcome in
        let is : first ≡ record (after_files done (cleared old)) { read = first.read; reading = first.reading; writing = first.writing } =
        first_is ∙ (λ j. record (after_files done (cleared old)) { read = (sym first_is j).read; reading = (sym first_is j).reading; writing = (sym first_is j).writing }) in
        broken_behind done files (reading_as new (cleared old)) (reading_as new first) new (files_reading done (cleared old) first new is) b

    -- a plan broke off
    pub plan_left : (new : Ledger) → PlansBrokeOff names s read first new → WritingBrokeOff names s read old new
    unfolding behind_first broken_behind broken_front broken_as
    plan_left new b =
        let index = b.index in
        let site = b.so_far.site in
        let within : index < length names = slice_get_within names index b.name b.here in
        let once = item_at read index (omega (arith, within, each_name, read_len s read was)) in
        let plan = whole_plan once.0.0 s.joined s.merged index once.0.1 in
        let more = plans_from s (index + 1) (drop (suc index) read) in
        let file : NamedText = record { name = plan_name b.name; text = plan } in
        let before = plan_files names site.plans in
        let behind = plan_files (drop (suc (length site.plans)) names) more in
        let plans : site.plans ++ plans_from s index (drop index read) ≡ site.plans ++ plan ∷ more = ap (λ hs. site.plans ++ plans_from s index hs) (drop_from read index once.0 once.1) in
        let here : slice_get names (length site.plans) ≡ Some b.name = ap (slice_get names) site.plans_are ∙ b.here in
        let files : before ++ (file ∷ behind) ≡ plan_files names (site.plans ++ plans_from s index (drop index read)) = sym (plan_files_from names site.plans more b.name plan here) ∙ ap (plan_files names) (sym plans) in
        let one = broken_plan (plan_name b.name) plan b.middle new b.begun b.next.no_file in
        let two : BrokeOff (file ∷ behind) (reading_as new b.middle) new = broken_front (file ∷ []) behind (reading_as new b.middle) new one.0 in
        let three : BrokeOff (before ++ (file ∷ behind)) (reading_as new first) new = broken_behind before (file ∷ behind) (reading_as new first) (reading_as new b.middle) new (files_reading before first b.middle new b.so_far.files) two in
        let four = behind_first ((before ++ (file ∷ behind)) ++ last) new (broken_front (before ++ (file ∷ behind)) last (reading_as new first) new three) in
        let done = first_files s.merged.outcome in
        let none : length one.0.whole ≡ 0 = ap length one.1 in
        let len : length (done ++ (before ++ one.0.whole)) ≤ length done + index = omega (arith, none, length-append done (before ++ one.0.whole), length-append before one.0.whole, length-plan_files names site.plans, site.plans_are) in
        record {
          index = index;
          within = omega (arith, within);
          site = site;
          reads = record {
            more = b.next.reads.more;
            one_at_most = b.next.reads.one_at_most;
            readings = b.next.reads.readings ∙ ap (λ rs. rs ++ b.next.reads.more) (b.so_far.readings ∙ ap (λ rs. rs ++ readings_from 0 site.texts) first_read);
          };
          files = broken_as (done ++ ((before ++ (file ∷ behind)) ++ last)) (done ++ (plan_files names (site.plans ++ plans_from s index (drop index read)) ++ last)) (reading_as new (cleared old)) (reading_as new (cleared old)) new (ap (λ fs. done ++ (fs ++ last)) files) refl four;
          in_turn = λ _. len;
        }

    -- the plans of all hosts are files, and what came then broke off
    pub last_left : (planned new : Ledger) → ArePlanned names s read first planned → BrokeOff last planned new → WritingBrokeOff names s read old new
    unfolding all_first
    last_left planned new p b =
        let site = all_first s read (length names) p.site was each_name in
        let done = first_files s.merged.outcome in
        let before = plan_files names p.site.plans in
        let none : drop (length names) read ≡ [] = drop_all (length names) read (omega (arith, each_name, read_len s read was)) in
        let plans : p.site.plans ++ plans_from s (length names) (drop (length names) read) ≡ p.site.plans = ap (λ hs. p.site.plans ++ plans_from s (length names) hs) none ∙ append-nil p.site.plans in
        let ledger : planned ≡ reading_as new planned = reads_same last planned new b in
        let one : BrokeOff last (reading_as new planned) new = broken_as last last planned (reading_as new planned) new refl ledger b in
        let two : BrokeOff (before ++ last) (reading_as new first) new = broken_behind before last (reading_as new first) (reading_as new planned) new (files_reading before first planned new p.files) one in
        let three = behind_first (before ++ last) new two in
        let reads : new.read ≡ old.read ++ readings_from 0 p.site.texts = ap (λ (l : Ledger). l.read) b.stands ∙ p.readings ∙ ap (λ rs. rs ++ readings_from 0 p.site.texts) first_read in
        record {
          index = length names;
          within = omega arith;
          site = site;
          reads = record { more = []; one_at_most = omega arith; readings = reads ∙ sym (append-nil (old.read ++ readings_from 0 p.site.texts)) };
          files = broken_as (done ++ (before ++ last)) (done ++ (plan_files names (p.site.plans ++ plans_from s (length names) (drop (length names) read)) ++ last)) (reading_as new (cleared old)) (reading_as new (cleared old)) new
              (ap (λ ps. done ++ (plan_files names ps ++ last)) (sym plans)) refl three;
          in_turn = λ less. absurd (omega (arith, less));
        }

-- ---- the merge

-- what was being written is right for the inventories as they were read last
pub merge_left : (texts : List HostText) (rules : SiteRules) (s : SolvedValue) (old mid new : Ledger) → (h : HasSolved texts rules old mid s) → ReadsOnly old mid → WritingBrokeOff texts s h.were mid new → MergeBrokeOff texts rules old new
unfolding broken_as
merge_left texts rules s old mid new h reads w =
    let first : WholeSite = record { hosts = h.were; joined = s.joined } in
    let index = w.index in
    let one_each : length h.first ≡ length s.hosts = h.first_read.one_each ∙ ap length (sym h.hosts) in
    let accepted : each site_of (loaded_from s.hosts h.first) ≡ Ok h.were = subst (λ (hs : List Host). each site_of (loaded_from hs h.first) ≡ Ok h.were) (sym h.hosts) h.first_read.accepted in
    let within : index ≤ length s.hosts = omega (arith, w.within, h.each_text) in
    let last = w.site.again ++ drop index h.were in
    let plans = w.site.plans ++ plans_from s index (drop index h.were) in
    let outcome : Outcome = record s.merged.outcome { plans = plans } in
    let again = last_again s h.first h.were index one_each accepted h.was_read w.site within in
    let whole = last_plans s h.first h.were index one_each accepted h.was_read w.site within in
    let right = second_reading_is_right first s.merged last plans h.whole h.merged again whole in
    let correct = second_reading_is_correct first s.merged last plans h.whole h.merged again whole in
    let site_is : ◌≡◌ {A = WholeSite} (record { hosts = last; joined = s.joined }) (record { hosts = last; joined = h.begun.joined }) = λ j. record { hosts = last; joined = h.joined j } in
    let is_correct : Headline (record { hosts = last; joined = h.begun.joined }) outcome = subst (λ (x : WholeSite). Headline x outcome) site_is correct in
    let same : is_correct.mappings ≡ s.merged.mappings = same_mappings first s.merged (record { hosts = last; joined = h.begun.joined }) plans h.merged (sym h.joined) is_correct in
    let texts_last = w.site.texts ++ drop (length w.site.texts) h.first in
    record {
      begun = h.begun;
      begun_is = h.begun_is;
      first = h.first;
      were = h.were;
      first_read = h.first_read;
      again = w.site.texts;
      last = last;
      last_read = record {
        one_each = last_one_each s h.first h.were index one_each accepted h.was_read w.site within ∙ ap length h.hosts;
        within = last_within s h.first h.were index one_each accepted h.was_read w.site within h.first_read.within;
        accepted = subst (λ (hs : List Host). each site_of (loaded_from hs texts_last) ≡ Ok last) h.hosts (last_accepted s h.first h.were index one_each accepted h.was_read w.site within);
      };
      reads = record { more = w.reads.more; one_at_most = w.reads.one_at_most; readings = w.reads.readings ∙ ap (λ rs. (rs ++ readings_from 0 w.site.texts) ++ w.reads.more) h.readings };
      outcome = outcome;
      is_right = subst (λ (x : WholeSite). IsOutcome x outcome) site_is right;
      is_correct = is_correct;
      files = broken_as (merged_files texts (record { hosts = s.hosts; joined = s.joined }) s.merged.mappings outcome) (merged_files texts h.begun is_correct.mappings outcome) (reading_as new (cleared mid)) (reading_as new (cleared old)) new
          (λ j. merged_files texts (record { hosts = h.hosts j; joined = h.joined j }) (sym same j) outcome) (λ j. reading_as new (cleared (reads j))) w.files;
      in_turn = λ less. subst (λ n. length w.files.whole ≤ length (first_files s.merged.outcome) + n) (sym w.site.texts_are) (w.in_turn (omega (arith, less, w.site.texts_are)));
    }

pub merge_leaves : (texts : List HostText) (rules : SiteRules) (s : SolvedValue) (old mid new : Ledger) (h : HasSolved texts rules old mid s) → ReadsOnly old mid → ReadsOnly mid new ⊎ WritingBrokeOff texts s h.were mid new → Leaves texts rules old new
merge_leaves texts rules s old mid new h reads (inl same) = inl (reads_on old mid new reads same)
merge_leaves texts rules s old mid new h reads (inr broken) = inr (merge_left texts rules s old mid new h reads broken)

-- after a survey
pub files_leave : (hosts : List HostText) (pins keep : List ℕ) (unowned : UnownedNumbers) (old mid new : Ledger) → WereFound hosts keep old mid unowned → Leaves hosts (rules_by pins keep unowned) mid new → LeavesFiles hosts pins keep old new
files_leave hosts pins keep unowned old mid new found (inl same) = inl (reads_on old mid new found.reads same)
files_leave hosts pins keep unowned old mid new found (inr broken) = inr (record { unowned = unowned; middle = mid; surveyed = found; holds = broken })
