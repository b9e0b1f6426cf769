-- What a merge leaves that is refused.
use Rattle.std.proofs.Common.{◌≡◌, ◌≢◌, ◌≤◌, ◌<◌, ◌+◌, ◌++◌, ◌∷◌, [], ℕ, List, Option, Result, Ok, Err, length, map, arith, sym, ap, subst, ◌∙◌, inl, inr, length-append}
use Rattle.std.specs.Prelude.{IfSome}
use Rattle.std.proofs.lemmas.Bool.{cases_Bool}
use Rattle.std.proofs.lemmas.List.{length-map}
use Rattle.std.proofs.lemmas.Option.{slice_get_within}
use Rattle.idtext.specs.First.{each}
use Rattle.idtext.proofs.OkLemmas.{bind_ok, length-each, ok_same}
use Rattle.hosts_join.specs.Checks.{hosts_checked}
use Rattle.hosts_join.specs.declared.host.Host.{Host}
use Rattle.hosts_join.specs.declared.texts.HostText.{HostText}
use Rattle.keep_text.specs.declared.keep_text.KeepText.{KeepText}
use Rattle.unify_texts.specs.declared.fault.Fault.{Fault}
use Rattle.unify_texts.specs.declared.fault.Fault.TheVariants.{Memory}
use Rattle.unify_texts.proofs.FaultsTold.{faults_are_told}
use Rattle.site_tables.specs.Hosts.{host_of}
use Rattle.site_tables.specs.Others.{keep_read}
use Rattle.site_tables.specs.Begun.{BegunSite, site_begun}
use Rattle.site_tables.specs.Rules.{rules_by}
use Rattle.site_tables.specs.Survey.{keeps_unowned, sparing_ranges, surveyed_hosts}
use Rattle.site_tables.specs.Told.{in_site}
use Rattle.site_tables.specs.declared.host.Loaded.{Loaded}
use Rattle.site_tables.specs.declared.rules.SiteRules.{SiteRules}
use Rattle.site_tables.proofs.ReadSites.{as-many-others}
use Rattle.unify_laws.proofs.HostTexts.{begun_steps}
use Rattle.unify_merge.specs.EarlyEnds.{AreAsBefore, RefusalsWriteNothing, RefusedFilesWriteNothing}
use Rattle.unify_merge.specs.FirstReading.{IsInventoryFault, ReadsOnly, StopsFor, readings_from}
use Rattle.unify_merge.specs.Ledger.{Ledger, Reading}
use Rattle.unify_merge.specs.Merge.{IsMergeFault, MergeBrokeOff}
use Rattle.unify_merge.specs.Survey.{IsReadFault, IsSurveyFault}
use Rattle.unify_merge.specs.Surveyed.{IsFindingFault, WereFound}
use Rattle.unify_merge.specs.declared.fault.MergeFault.TheVariants.{Refused}
use Rattle.unify_merge.proofs.EarlyEnds.{as_before}
use Rattle.unify_merge.proofs.ReadTexts.{length-readings_from}

same_as_before : (old new : Ledger) → new ≡ old → AreAsBefore old new
same_as_before old new same = record {
  clear = ap (λ (l : Ledger). l.is_clear) same;
  begun = ap (λ (l : Ledger). l.begun) same;
  finished = ap (λ (l : Ledger). l.finished) same;
  settled = ap (λ (l : Ledger). l.settled) same;
  writing = ap (λ (l : Ledger). l.writing) same;
}

still_as_before : (old mid new : Ledger) → AreAsBefore old mid → AreAsBefore mid new → AreAsBefore old new
still_as_before old mid new one two = record {
  clear = two.clear ∙ one.clear;
  begun = two.begun ∙ one.begun;
  finished = two.finished ∙ one.finished;
  settled = two.settled ∙ one.settled;
  writing = two.writing ∙ one.writing;
}

-- a fault that is told is one of these
pub is_fault : (IsFault : Fault → Type 0) (l : Ledger) (f : Fault) → f ≢ Memory → StopsFor IsFault l (Refused f) → IsFault f
is_fault IsFault l f other stops = subst (λ (o : Option Fault). IfSome o IsFault) (faults_are_told.commands.others f other) stops

-- ---- by rules that are given

-- the tables and the rules were accepted, and an inventory has a fault
at_inventory : (texts : List HostText) (rules : SiteRules) (old new : Ledger) (f : Fault) → (begun : BegunSite) × (site_begun texts rules ≡ Ok begun) × IsInventoryFault begun.hosts old new f × ReadsOnly old new → AreAsBefore old new
at_inventory texts rules old new f found = as_before old new found.3

pub refusals_write_nothing : RefusalsWriteNothing
refusals_write_nothing texts rules old new f other unchanged stops =
    elim (is_fault (IsMergeFault texts rules old new) new f other stops) [
      | inl (refused, same) ↦ same_as_before old new same
      | inr (inl found) ↦ at_inventory texts rules old new f found
      | inr (inr second) ↦ absurd (unchanged second.change.host.name second.change.change.0)
    ]

-- ---- after a survey

-- no more inventories are looked through than there are texts
few_surveyed : (texts : List HostText) (keep : Result KeepText Fault) (hosts : List Host) → surveyed_hosts texts keep ≡ Ok hosts → length hosts ≤ length texts
few_surveyed texts (Err f) hosts is = omega (arith, ap length (ok_same [] hosts is))
few_surveyed texts (Ok keep) hosts is = elim (cases_Bool (keeps_unowned keep)) [
  | inl t ↦
      let all = rw t at is in
      let checked = bind_ok (in_site (hosts_checked texts)) _ hosts all in
      let loading = bind_ok (each host_of texts) (λ loaded. Ok (map (λ (l : Loaded). sparing_ranges keep l.host) loaded)) hosts checked.2 in
      let same = ap length (ok_same (map (λ (l : Loaded). sparing_ranges keep l.host) loading.0) hosts loading.2) in
      omega (arith, same, length-map loading.0 (λ (l : Loaded). sparing_ranges keep l.host), length-each host_of texts loading.0 loading.1)
  | inr f ↦ let none = rw f at is in omega (arith, ap length (ok_same [] hosts none))
]

-- a survey that is refused has read no more than these
read_of_one : (host : Host) (index : ℕ) (before : List Reading) (l : Ledger) (f : Fault) → IsReadFault host index before l f → length l.read ≤ length before + 1
read_of_one host index before l f (text, inl (reading, refused)) = omega (arith, ap length reading.0)
read_of_one host index before l f (text, inr (read, refused)) = omega (arith, ap length read, length-append before (record { host = index; text = text } ∷ []))

read_refused : (hosts : List Host) (old new : Ledger) (f : Fault) → IsSurveyFault hosts old new f → (length new.read ≤ length old.read + length hosts) × (0 < length hosts)
read_refused hosts old new f is =
    let within : length is.texts < length hosts = slice_get_within hosts (length is.texts) is.host is.here in
    let most = read_of_one is.host (length is.texts) (old.read ++ readings_from 0 is.texts) new f is.fault in
    (omega (arith, within, most, length-append old.read (readings_from 0 is.texts), length-readings_from 0 is.texts), omega (arith, within))

-- and one that was not refused all of them, as the merge has after it
read_found : (texts : List HostText) (keep : List ℕ) (rules : SiteRules) (old mid new : Ledger) (surveying : List Host) → surveyed_hosts texts (keep_read keep) ≡ Ok surveying → WereFound texts keep old mid rules.keep.unowned → MergeBrokeOff texts rules mid new
    → length old.read + length surveying + length texts ≤ length new.read
read_found texts keep rules old mid new surveying are found b =
    let s = begun_steps texts rules b.begun b.begun_is in
    let each_host : length b.begun.hosts ≡ length texts = sym (ap length s.hosts) ∙ as-many-others texts rules.keep s.others s.others_are in
    let same : length found.surveying ≡ length surveying = ap length (ok_same found.surveying surveying (sym found.surveying_are ∙ are)) in
    let first = readings_from 0 b.first in
    let again = readings_from 0 b.again in
    omega (
      arith,
      each_host,
      same,
      found.one_each,
      b.first_read.one_each,
      ap length found.readings,
      length-append old.read (readings_from 0 found.texts),
      length-readings_from 0 found.texts,
      ap length b.reads.readings,
      length-append ((mid.read ++ first) ++ again) b.reads.more,
      length-append (mid.read ++ first) again,
      length-append mid.read first,
      length-readings_from 0 b.first,
    )

pub refused_files_write_nothing : RefusedFilesWriteNothing
refused_files_write_nothing texts pins keep old new f other unchanged stops (inl same) = as_before old new same
refused_files_write_nothing texts pins keep old new f other unchanged (inr behind) (inr b) =
    still_as_before old behind.middle new (as_before old behind.middle behind.surveyed.reads)
    (refusals_write_nothing texts (rules_by pins keep behind.unowned) behind.middle new f other unchanged behind.holds)
refused_files_write_nothing texts pins keep old new f other unchanged (inl stops) (inr b) =
    elim (is_fault (IsFindingFault texts keep old new) new f other stops) [
      | inl (refused, same) ↦ same_as_before old new same
      | inr (surveying, are, fault) ↦
          let most = read_refused surveying old new f fault in
          let least = read_found texts keep (rules_by pins keep b.unowned) old b.middle new surveying are b.surveyed b.holds in
          let few = few_surveyed texts (keep_read keep) surveying are in
          absurd (omega (arith, most.0, most.1, least, few))
    ]
