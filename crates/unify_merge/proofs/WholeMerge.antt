-- The files of a merge, and what it stops for.
use Rattle.std.proofs.Common.{◌≡◌, ◌++◌, ◌∷◌, [], ℕ, List, length, map, Some, Result, Ok, Err, refl, sym, ap, subst, ◌∙◌, inl, inr}
use Rattle.std.specs.Prelude.{IfOk}
use Rattle.std.specs.List.{slice_get}
use Rattle.std.specs.Option.{option_map}
use Rattle.std.proofs.lemmas.Option.{slice_get-map}
use Rattle.idtext.specs.First.{each}
use Rattle.mtree_inv.specs.declared.entry.Entry.{Entry}
use Rattle.hosts_join.specs.Site.{Joined}
use Rattle.hosts_join.specs.declared.host.Host.{Host}
use Rattle.hosts_join.specs.declared.texts.HostText.{HostText}
use Rattle.ownership.specs.declared.mapping.Mappings.{Mappings}
use Rattle.unify_texts.specs.declared.fault.Fault.{Fault}
use Rattle.unify.specs.declared.counting.Cost.{Cost}
use Rattle.unify.specs.declared.outcome.Outcome.{Outcome}
use Rattle.site_tables.specs.declared.rules.SiteRules.{SiteRules}
use Rattle.unify.specs.Count.{site_of}
use Rattle.unify.specs.Whole.{IsWhole}
use Rattle.site_tables.specs.Loading.{loaded_from}
use Rattle.unify.specs.Merging.{IsMerged}
use Rattle.unify.specs.Outcomes.{IsOutcome}
use Rattle.site_tables.specs.Begun.{AreTogether, BegunSite, site_begun}
use Rattle.unify.specs.Passes.{InventoriesValue, behind, read_in}
use Rattle.unify.specs.Reading.{WholeSite}
use Rattle.unify.specs.SecondPass.{IsSolvedFrom, SolvedValue, at_start, ended_in, first_in}
use Rattle.unify.proofs.BetweenPasses.{over_whole}
use Rattle.unify.proofs.Whole.{hosts_held}
use Rattle.unify_laws.specs.Headline.{Headline}
use Rattle.unify_laws.specs.HostTexts.{AreJoinedInFull, host_files}
use Rattle.unify_laws.specs.TwoPasses.{AreReadAgain}
use Rattle.unify_laws.proofs.HostTexts.{begun_sites_are_in_full, empty_texts_keep_no_name, tables_are_of_texts, text_keeps}
use Rattle.unify_laws.proofs.SecondReading.{second_reading_is_correct, second_reading_is_right, still_whole}
use Rattle.unify_merge.specs.Ledger.{Ledger, Reading, after_files, all_settled, cleared, with_sealed}
use Rattle.unify_merge.specs.FirstReading.{AreWithinLimit, IsInventoryFault, ReadsOnly, StopsCounting, readings_from}
use Rattle.unify_merge.specs.HostFiles.{HasFiles, StopsWriting}
use Rattle.unify_merge.specs.SecondReading.{IsChangeFault, StopsPlanning, plan_files}
use Rattle.unify_merge.specs.Merge.{HasMade, HasMerged, HasSolved, HasWritten, StopsMerge, first_files, merged_files, report_file}
use Rattle.unify_merge.specs.declared.fault.MergeFault.{MergeFault}
use Rattle.unify_merge.specs.declared.fault.MergeFault.TheVariants.{Failed, TooLarge, Refused}
use Rattle.unify_merge.proofs.OwnFiles.{same_mappings}
use Rattle.unify_merge.proofs.Planned.{files_more}
use Rattle.unify_merge.proofs.Stops.{stops_map}

-- the same readings before
pub planning_same : (read : List (Host × List Entry)) (old other new : Ledger) (fault : MergeFault) → other.read ≡ old.read → StopsPlanning read other new fault → StopsPlanning read old new fault
planning_same read old other new fault same stops = stops_map _ _ new fault (λ f is. record {
  texts = is.texts;
  again = is.again;
  accepted = is.accepted;
  same = is.same;
  host = is.host;
  were = is.were;
  here = is.here;
  change = subst (λ (rs : List Reading). IsChangeFault is.host is.were (length is.texts) (rs ++ readings_from 0 is.texts) new f) same is.change;
}) stops

-- the files of a host were not written, and so the merge ended early
pub writing_stopped : (read : List (Host × List Entry)) (old new : Ledger) (fault : MergeFault) → StopsWriting fault → StopsPlanning read old new fault
writing_stopped read old new (Failed e) stops = stops
writing_stopped read old new TooLarge stops = absurd stops
writing_stopped read old new (Refused e) stops = subst (λ (x : Fault). StopsPlanning read old new (Refused x)) (sym stops) tt

-- the first files, the plans, those of each host, and the report
pub merged_all : (texts : List HostText) (begun : BegunSite) (m : Mappings) (outcome : Outcome) (plans : List (List ℕ)) (old first mid own new : Ledger) → first ≡ after_files (first_files outcome) (cleared old)
    → mid ≡ record (after_files (plan_files texts plans) first) { read = mid.read; reading = mid.reading; writing = mid.writing } → HasFiles (host_files begun.joined m texts begun.hosts) mid own → new ≡ with_sealed (report_file outcome) own
    → new ≡ record (all_settled (after_files (merged_files texts begun m (record outcome { plans = plans })) (cleared old))) { read = new.read; reading = new.reading; writing = new.writing }
merged_all texts begun m outcome plans old first mid own new one two three four =
    let hosts = host_files begun.joined m texts begun.hosts in
    let one_is : first ≡ record (after_files (first_files outcome) (cleared old)) { read = first.read; reading = first.reading; writing = first.writing } =
    one ∙ (λ j. record (after_files (first_files outcome) (cleared old)) { read = (sym one j).read; reading = (sym one j).reading; writing = (sym one j).writing }) in
    let three_is : own ≡ record (after_files hosts mid) { read = own.read; reading = own.reading; writing = own.writing } =
    three ∙ (λ j. record (after_files hosts mid) { read = (sym three j).read; reading = (sym three j).reading; writing = (sym three j).writing }) in
    let all = merged_files texts begun m (record outcome { plans = plans }) in
    let end = after_files (report_file outcome ∷ []) own in
    let rest = files_more hosts (report_file outcome ∷ []) mid own end three_is refl in
    let behind = files_more (plan_files texts plans) (hosts ++ report_file outcome ∷ []) first mid end two rest in
    let written : end ≡ record (after_files all (cleared old)) { read = end.read; reading = end.reading; writing = end.writing } = files_more (first_files outcome) (plan_files texts plans ++ (hosts ++ report_file outcome ∷ [])) (cleared old) first end one_is behind in
    four ∙ ap all_settled written ∙ (λ j. record (all_settled (after_files all (cleared old))) { read = (sym four j).read; reading = (sym four j).reading; writing = (sym four j).writing })

-- what follows from each success
pub if_ok : {T E : Type 0} (r : Result T E) (P Q : T → Type 0) → ((x : T) → P x → Q x) → IfOk r P → IfOk r Q
if_ok (Ok x) P Q goes p = goes x p
if_ok (Err e) P Q goes p = tt

-- the first reading ended early, and so did the merge
pub counted_stopped : (texts : List HostText) (rules : SiteRules) (begun : BegunSite) (hosts : List Host) (old new : Ledger) (fault : MergeFault) → site_begun texts rules ≡ Ok begun → hosts ≡ begun.hosts → ReadsOnly old new
    → StopsCounting hosts old new fault → StopsMerge texts rules old new fault
counted_stopped texts rules begun hosts old new fault is same reads stops =
    stops_map _ _ new fault (λ f found. inr (inl (begun, is, subst (λ (hs : List Host). IsInventoryFault hs old new f) same found, reads))) stops

-- the second did, and so did the merge
pub written_stopped : (texts : List HostText) (rules : SiteRules) (old mid new : Ledger) (s : SolvedValue) (fault : MergeFault) (h : HasSolved texts rules old mid s) → StopsPlanning h.were mid new fault → StopsMerge texts rules old new fault
written_stopped texts rules old mid new s fault h stops =
    let from = planning_same h.were (record old { read = old.read ++ readings_from 0 h.first }) mid new fault h.readings stops in
    stops_map _ _ new fault (λ f is. inr (inr (record { begun = h.begun; begun_is = h.begun_is; first = h.first; were = h.were; first_read = h.first_read; change = is }))) from

-- the first pass is over, and the second is at its start
pub has_solved : (texts : List HostText) (rules : SiteRules) (begun : BegunSite) (over : InventoriesValue) (site : Joined) (s : SolvedValue) (old new : Ledger) (first : List (List ℕ)) (read : List (Host × List Entry)) → over ≡ behind begun.hosts first → read_in over ≡ Ok read → site_begun texts rules ≡ Ok begun
    → site ≡ begun.joined → length first ≡ length begun.hosts → length begun.hosts ≡ length texts → AreTogether begun.hosts site → IsSolvedFrom over site s → new.read ≡ old.read ++ readings_from 0 first → AreWithinLimit first → HasSolved texts rules old new s
has_solved texts rules begun over site s old new first read same accepted is joined one_each each_text together from readings within =
    let c = behind begun.hosts first in
    let was : read_in c ≡ Ok read = subst (λ (v : InventoriesValue). read_in v ≡ Ok read) same accepted in
    let start : s ≡ at_start c site s.merged = from.start ∙ ap (λ (v : InventoriesValue). at_start v site s.merged) same in
    let site_is : site ≡ s.joined = sym (ap (λ (v : SolvedValue). v.joined) start) in
    record {
      begun = begun;
      begun_is = is;
      first = first;
      were = read;
      first_read = record { one_each = one_each; within = within; accepted = was };
      readings = readings;
      hosts = ap (λ (v : SolvedValue). v.hosts) start;
      joined = sym site_is ∙ joined;
      each_text = sym each_text ∙ ap (λ (v : SolvedValue). length v.hosts) (sym start);
      was_read = record {
        hosts = sym (hosts_held begun.hosts first read one_each was).0 ∙ ap (λ (v : SolvedValue). v.hosts) (sym start);
        files = ap first_in start ∙ was;
      };
      whole = subst (λ (j : Joined). IsWhole (record { hosts = read; joined = j })) site_is (over_whole c site read together one_each was);
      merged = subst (λ (j : Joined). IsMerged (record { hosts = read; joined = j }) s.merged) site_is (from.merged read accepted);
      none_ended = ap ended_in start;
      fresh = record {
        none = ap (λ (v : SolvedValue). v.text) start;
        unplanned = ap (λ (v : SolvedValue). v.planned) start;
        unmet = ap (λ (v : SolvedValue). v.met) start;
      };
    }

-- what was merged is right and correct, and stands in its files
record IsMergedFor (texts : List HostText) (begun : BegunSite) (are : List (Host × List Entry)) (outcome : Outcome) (old new : Ledger) : Type 0 where
  whole : IsWhole (record { hosts = are; joined = begun.joined })
  right : IsOutcome (record { hosts = are; joined = begun.joined }) outcome
  correct : Headline (record { hosts = are; joined = begun.joined }) outcome
  files : new ≡ record (all_settled (after_files (merged_files texts begun correct.mappings outcome) (cleared old))) { read = new.read; reading = new.reading; writing = new.writing }

-- what was merged for the first reading stands in its files, with plans for the second
merged_for : (texts : List HostText) (rules : SiteRules) (s : SolvedValue) (old mid new : Ledger) (cost : Cost) (h : HasSolved texts rules old mid s) → ReadsOnly old mid → (w : HasWritten texts s h.were mid new cost)
    → IsMergedFor texts h.begun w.site.again (record s.merged.outcome { plans = w.site.plans }) old new
merged_for texts rules s old mid new cost h reads w =
    let first : WholeSite = record { hosts = h.were; joined = s.joined } in
    let outcome : Outcome = record s.merged.outcome { plans = w.site.plans } in
    let read : BegunSite = record { hosts = s.hosts; joined = s.joined } in
    let last : WholeSite = record { hosts = w.site.again; joined = s.joined } in
    let begun : read ≡ h.begun = λ j. record { hosts = h.hosts j; joined = h.joined j } in
    let correct : Headline last outcome = second_reading_is_correct first s.merged w.site.again w.site.plans h.whole h.merged w.site.same w.site.whole in
    let same : s.merged.mappings ≡ correct.mappings = sym (same_mappings first s.merged last w.site.plans h.merged refl correct) in
    subst (λ (b : BegunSite). IsMergedFor texts b w.site.again outcome old new) begun
    (record {
      whole = still_whole first h.whole w.site.again w.site.same;
      right = second_reading_is_right first s.merged w.site.again w.site.plans h.whole h.merged w.site.same w.site.whole;
      correct = correct;
      files = w.files ∙ (λ j. record (all_settled (after_files (merged_files texts read (same j) outcome) (cleared (reads j)))) { read = new.read; reading = new.reading; writing = new.writing });
    })

pub has_merged : (texts : List HostText) (rules : SiteRules) (s : SolvedValue) (old mid new : Ledger) (cost : Cost) (h : HasSolved texts rules old mid s) → ReadsOnly old mid → HasWritten texts s h.were mid new cost → HasMerged texts rules old new cost
has_merged texts rules s old mid new cost h reads w =
    let outcome : Outcome = record s.merged.outcome { plans = w.site.plans } in
    let site : WholeSite = record { hosts = w.site.again; joined = h.begun.joined } in
    let merged : IsMergedFor texts h.begun w.site.again outcome old new = merged_for texts rules s old mid new cost h reads w in
    let one_each : length w.site.texts ≡ length h.begun.hosts = w.site.one_each ∙ ap length h.hosts in
    let accepted : each site_of (loaded_from h.begun.hosts w.site.texts) ≡ Ok w.site.again = subst (λ (hs : List Host). each site_of (loaded_from hs w.site.texts) ≡ Ok w.site.again) h.hosts w.site.accepted in
    let first : Host × List Entry → Host = λ x. x.0 in
    let held : map first w.site.again ≡ h.begun.hosts = sym (hosts_held h.begun.hosts w.site.texts w.site.again one_each accepted).0 in
    record {
      begun = h.begun;
      begun_is = h.begun_is;
      first = h.first;
      were = h.were;
      first_read = h.first_read;
      second = w.site.texts;
      are = w.site.again;
      second_read = record { one_each = one_each; within = w.site.within; accepted = accepted };
      same = subst (λ (j : Joined). AreReadAgain (record { hosts = h.were; joined = j }) w.site.again) h.joined w.site.same;
      readings = w.readings ∙ ap (λ rs. rs ++ readings_from 0 w.site.texts) h.readings;
      outcome = outcome;
      is_right = merged.right;
      is_correct = merged.correct;
      own_files = λ k host files text loaded at there is_told.
          let here : slice_get h.begun.hosts k ≡ Some host = ap (λ hs. slice_get hs k) (sym held) ∙ slice_get-map first w.site.again k ∙ ap (option_map first) at in
          text_keeps site outcome merged.whole merged.correct k host files text loaded at (tables_are_of_texts texts rules h.begun k host text h.begun_is here there) is_told;
      in_full = λ none. subst (λ (hs : List Host). AreJoinedInFull hs texts) (sym held) (begun_sites_are_in_full texts rules h.begun h.begun_is none);
      none_kept = λ empty. empty_texts_keep_no_name texts rules h.begun empty h.begun_is;
      files = merged.files;
      cost_is = w.cost_is;
    }

-- and what was merged is handed out
pub has_made : (texts : List HostText) (rules : SiteRules) (s : SolvedValue) (old mid new : Ledger) (made : Outcome) (h : HasSolved texts rules old mid s) → ReadsOnly old mid → HasWritten texts s h.were mid new made.cost → made ≡ s.merged.outcome → HasMade texts rules old new made
unfolding has_merged
has_made texts rules s old mid new made h reads w is = record {
  merged = has_merged texts rules s old mid new made.cost h reads w;
  no_plans = ap (λ (o : Outcome). o.plans) is ∙ h.merged.printed.no_plans;
  outcome_is = ap (λ (o : Outcome). record o { plans = w.site.plans }) (sym is);
}
