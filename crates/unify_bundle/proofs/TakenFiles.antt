-- Which file of a bundle goes where, and what its command replies by these files.
use Rattle.std.proofs.Common.{◌≡◌, ◌∷◌, [], ℕ, zero, suc, ◌<◌, ◌==◌, true, false, List, Contains, Some, Result, Ok, Err, map, length, get_or, slice_get, slice_index_or, refl, sym, ap, subst, ◌∙◌, arith, inl, inr}
use Rattle.std.specs.Prelude.{◌↔◌}
use Rattle.std.specs.List.{IsDistinct, AllByRecursion}
use Rattle.std.proofs.lemmas.Bool.{cases_Bool, eq-eqb, eqb-true}
use Rattle.std.proofs.lemmas.List.Elements.{Contains-append_cases, Contains-append_left, Contains-append_right}
use Rattle.std.proofs.lemmas.Map.Keys.{IsDistinct-head, IsDistinct-tail}
use Rattle.std.proofs.lemmas.Option.{same_Some}
use Rattle.idtext.specs.First.{◌>>=◌}
use Rattle.idtext.proofs.OkLemmas.{bind_ok, ok_same}
use Rattle.hosts_join.specs.declared.texts.HostText.{HostText}
use Rattle.unify_texts.specs.declared.fault.Fault.{Fault}
use Rattle.unify_texts.specs.declared.bundle_line.Command.TheVariants.{Count, Merge, MergeHosts, Check, Rehearse}
use Rattle.unify_texts.specs.declared.places.NamedFile.{NamedFile}
use Rattle.unify_texts.specs.declared.places.Place.{Place}
use Rattle.unify_texts.specs.declared.bundle_line.FileName.{FileName}
use Rattle.unify_texts.specs.declared.bundle_line.FileName.TheVariants as file
use Rattle.unify_texts.specs.BundleLines.{file_index, same_file}
use Rattle.site_tables.specs.declared.rules.SiteRules.{SiteRules}
use Rattle.unify.specs.Checking.{check_of}
use Rattle.unify.specs.Count.{count_of}
use Rattle.unify.specs.Outcomes.{IsOutcome}
use Rattle.unify.specs.Reading.{WholeSite, site_read}
use Rattle.rehearsal.specs.Rehearsing.{IsRehearsed}
use Rattle.site_tables.specs.Rules.{rules_by}
use Rattle.site_tables.specs.Survey.{surveyed}
use Rattle.unify_laws.specs.HostTexts.{AreSiteFiles}
use Rattle.unify_bundle.specs.Lines.{accepted_line, cost_lines, merge_lines, records_lines, site_lines}
use Rattle.unify_bundle.specs.Output.{IsMergeTold, IsMergeWithHostsTold, IsToldBy, checked, counted, host_text, host_texts, rules_for, rules_in, text_in}
use Rattle.unify_bundle.specs.TakenFiles.{AreHostsAt, AreRulesAt, ChecksHaveTheirCertificate, CountsHaveTheirMap, FilesHaveOneText, HasEachOnce, HostsHaveTheirFiles, IsHostAt, IsTextAt, MergesHaveTheirHosts, RehearsalsHaveTheirFiles, RulesHaveTheirFiles, SurveysRefuse, TellsFound, TellsRight}

-- ---- one text

abbrev Once : List NamedFile → Type 0
Once files = IsDistinct same_file (map (λ (named : NamedFile). named.file) files)

-- a file that has another name than each of these is none of them
none_has : (named : NamedFile) (files : List NamedFile) (i : ℕ) (d : NamedFile) → AllByRecursion (λ other. same_file named.file other ≡ false) (map (λ (n : NamedFile). n.file) files) → i < length files
    → same_file named.file (get_or files i d).file ≡ false
none_has named [] i d none within = absurd (omega (arith, within))
none_has named (n ∷ files) zero d none within = none.0
none_has named (n ∷ files) (suc i) d none within = none_has named files i d none.1 (omega (arith, within))

taken_at : (files : List NamedFile) (file : FileName) (i : ℕ) (d : NamedFile) → Once files → i < length files → (get_or files i d).file ≡ file → text_in files file ≡ (get_or files i d).text
taken_at [] file i d once within is = absurd (omega (arith, within))
taken_at (n ∷ files) file zero d once within is =
    let same : (file_index n.file == file_index file) ≡ true = eq-eqb (file_index n.file) (file_index file) (ap file_index is) in
    rw same refl
taken_at (n ∷ files) file (suc i) d once within is =
    let names = map (λ (named : NamedFile). named.file) files in
    let inside : i < length files = omega (arith, within) in
    let apart : same_file n.file (get_or files i d).file ≡ false = none_has n files i d (IsDistinct-head same_file n.file names once) inside in
    let other : (file_index n.file == file_index file) ≡ false = subst (λ (f : FileName). same_file n.file f ≡ false) is apart in
    rw other (taken_at files file i d (IsDistinct-tail same_file n.file names once) inside is)

taken : (files : List NamedFile) (file : FileName) (text : List ℕ) → Once files → Contains files (record { file = file; text = text }) → text_in files file ≡ text
taken files file text once has =
    let named : NamedFile = record { file = file; text = text } in
    taken_at files file has.0 named once has.1 (ap (λ (n : NamedFile). n.file) has.2) ∙ ap (λ (n : NamedFile). n.text) has.2

-- files of one index are one
abbrev file_at : ℕ → FileName
file_at zero = file.Map
file_at (suc zero) = file.Certificate
file_at (suc (suc zero)) = file.Plan
file_at (suc (suc (suc zero))) = file.Pins
file_at (suc (suc (suc (suc zero)))) = file.Keep
file_at (suc (suc (suc (suc (suc zero))))) = file.Mtree
file_at (suc (suc (suc (suc (suc (suc zero)))))) = file.Passwd
file_at (suc (suc (suc (suc (suc (suc (suc zero))))))) = file.Group
file_at (suc (suc (suc (suc (suc (suc (suc (suc n)))))))) = file.LoginDefs

at_index : (file : FileName) → file_at (file_index file) ≡ file
at_index file.Map = refl
at_index file.Certificate = refl
at_index file.Plan = refl
at_index file.Pins = refl
at_index file.Keep = refl
at_index file.Mtree = refl
at_index file.Passwd = refl
at_index file.Group = refl
at_index file.LoginDefs = refl

one_file : (a b : FileName) → (file_index a == file_index b) ≡ true → a ≡ b
one_file a b same = sym (at_index a) ∙ ap file_at (eqb-true (file_index a) (file_index b) same) ∙ at_index b

none_taken : (files : List NamedFile) (file : FileName) → ((text : List ℕ) → Contains files (record { file = file; text = text }) → ⊥) → text_in files file ≡ []
none_taken [] file none = refl
none_taken (n ∷ files) file none = elim (cases_Bool (file_index n.file == file_index file)) [
  | inl t ↦
      let is : n.file ≡ file = one_file n.file file t in
      let first : Contains (n ∷ files) n = Contains-append_left (n ∷ []) files n (0, omega arith, refl) in
      absurd (none n.text (subst (λ (f : FileName). Contains (n ∷ files) (record { file = f; text = n.text })) is first))
  | inr f ↦ rw f (none_taken files file (λ text has. none text (Contains-append_right (n ∷ []) files (record { file = file; text = text }) has)))
]

text_at : (place : Place) (file : FileName) → HasEachOnce place → IsTextAt place file (text_in place.files file)
text_at place file once = record { own = λ its has. taken place.files file its once has; empty = λ lacks. none_taken place.files file lacks }

abbrev of_name : FileName → List ℕ → NamedFile
of_name file text = record { file = file; text = text }

-- a file of that name that is not the first of these is among the others
only_one : (n x : NamedFile) (k : ℕ) → k < length (n ∷ []) → slice_index_or (n ∷ []) k x ≡ x → n ≡ x
only_one n x zero within is = is
only_one n x (suc k) within is = absurd (omega (arith, within))

behind : (n : NamedFile) (files : List NamedFile) (file : FileName) (text : List ℕ) → (file_index n.file == file_index file) ≡ false → Contains (n ∷ files) (of_name file text) → Contains files (of_name file text)
behind n files file text other has = elim (Contains-append_cases (n ∷ []) files (of_name file text) has) [
  | inl one ↦
      let is : n ≡ of_name file text = only_one n (of_name file text) one.0 one.1 one.2 in
      let same : (file_index n.file == file_index file) ≡ true = eq-eqb (file_index n.file) (file_index file) (ap (λ (m : NamedFile). file_index m.file) is) in
      absurd (cc)
  | inr rest ↦ rest
]

-- one text alone can be taken as a file
one_text : (files : List NamedFile) (file : FileName) (text : List ℕ) → ((its : List ℕ) → Contains files (of_name file its) → text ≡ its) → (((its : List ℕ) → Contains files (of_name file its) → ⊥) → text ≡ [])
    → text ≡ text_in files file
one_text [] file text own empty = empty (λ its has. absurd (omega (arith, has.1)))
one_text (n ∷ files) file text own empty = elim (cases_Bool (file_index n.file == file_index file)) [
  | inl t ↦
      let is : n.file ≡ file = one_file n.file file t in
      let first : Contains (n ∷ files) n = Contains-append_left (n ∷ []) files n (0, omega arith, refl) in
      rw t (own n.text (subst (λ (f : FileName). Contains (n ∷ files) (of_name f n.text)) is first))
  | inr f ↦
      let own_behind : (its : List ℕ) → Contains files (of_name file its) → text ≡ its = λ its has. own its (Contains-append_right (n ∷ []) files (of_name file its) has) in
      rw f (one_text files file text own_behind (λ lacks. empty (λ its has. lacks its (behind n files file its f has))))
]

text_is : (place : Place) (file : FileName) (text : List ℕ) → IsTextAt place file text → text ≡ text_in place.files file
text_is place file text at = one_text place.files file text at.own at.empty

pub files_have_one_text : FilesHaveOneText
files_have_one_text = record {
  found = λ place file once. (text_in place.files file, text_at place file once);
  alone = λ place file text other at instead. text_is place file text at ∙ sym (text_is place file other instead);
}

-- ---- hosts

host_at : (place : Place) → HasEachOnce place → IsHostAt place (host_text place)
host_at place once = record {
  name = refl;
  passwd = text_at place file.Passwd once;
  group = text_at place file.Group once;
  logindefs = text_at place file.LoginDefs once;
  mtree = text_at place file.Mtree once;
}

host_is : (place : Place) (host : HostText) → IsHostAt place host → host ≡ host_text place
host_is place host at =
    let passwd = text_is place file.Passwd host.passwd at.passwd in
    let group = text_is place file.Group host.group at.group in
    let logindefs = text_is place file.LoginDefs host.logindefs at.logindefs in
    let mtree = text_is place file.Mtree host.mtree at.mtree in
    λ i. record {
      name = at.name i;
      passwd = passwd i;
      group = group i;
      logindefs = logindefs i;
      mtree = mtree i;
    }

hosts_are : (places : List Place) (hosts : List HostText) → AreHostsAt places hosts → hosts ≡ host_texts places
hosts_are [] [] at = refl
hosts_are [] (host ∷ hosts) at = absurd (omega (arith, at.number))
hosts_are (place ∷ places) [] at = absurd (omega (arith, at.number))
hosts_are (place ∷ places) (host ∷ hosts) at =
    let first = host_is place host (at.each 0 place host refl refl) in
    let rest = hosts_are places hosts (record { number = omega (arith, at.number); each = λ h. at.each (suc h) }) in
    λ i. first i ∷ rest i

as_many : (places : List Place) → length (host_texts places) ≡ length places
as_many [] = refl
as_many (place ∷ places) = ap suc (as_many places)

each_has : (places : List Place) (h : ℕ) (place : Place) (host : HostText) → slice_get places h ≡ Some place → slice_get (host_texts places) h ≡ Some host → HasEachOnce place → IsHostAt place host
each_has [] h place host at there once = absurd (cc)
each_has (p ∷ places) zero place host at there once =
    let same : p ≡ place = same_Some p place at in
    let is : host_text p ≡ host = same_Some (host_text p) host there in
    subst (IsHostAt place) (ap host_text (sym same) ∙ is) (host_at place once)
each_has (p ∷ places) (suc h) place host at there once = each_has places h place host at there once

pub hosts_have_their_files : HostsHaveTheirFiles
hosts_have_their_files = record { number = as_many; each = each_has }

-- ---- rules

pub rules_have_their_files : RulesHaveTheirFiles
rules_have_their_files head hosts rules is once =
    let pins = text_in head.files file.Pins in
    let keep = text_in head.files file.Keep in
    let found = bind_ok (surveyed (host_texts hosts) keep) (λ unowned. Ok (rules_by pins keep unowned)) rules is in
    let same : rules_by pins keep found.0 ≡ rules = ok_same (rules_by pins keep found.0) rules found.2 in
    subst (AreRulesAt head (host_texts hosts)) same (record {
      pins = text_at head file.Pins once;
      keep = text_at head file.Keep once;
      unowned = found.1;
    })

-- the rules of a bundle are those at its places
rules_are : (head : Place) (places : List Place) (hosts : List HostText) (rules : SiteRules) → AreHostsAt places hosts → AreRulesAt head hosts rules → rules_in (head ∷ places) ≡ Ok rules
rules_are head places hosts rules at by =
    let texts = sym (hosts_are places hosts at) in
    let pins = sym (text_is head file.Pins rules.pins by.pins) in
    let keep = sym (text_is head file.Keep rules.keep.text by.keep) in
    let same : rules_in (head ∷ places) ≡ rules_for hosts rules.pins rules.keep.text = λ i. rules_for (texts i) (pins i) (keep i) in
    same ∙ ap (λ found. found >>= λ unowned. Ok (rules_by rules.pins rules.keep.text unowned)) by.unowned

no_rules_are : (head : Place) (places : List Place) (hosts : List HostText) (keep : List ℕ) (f : Fault) → AreHostsAt places hosts → IsTextAt head file.Keep keep → surveyed hosts keep ≡ Err f → rules_in (head ∷ places) ≡ Err f
no_rules_are head places hosts keep f at kept none =
    let texts = sym (hosts_are places hosts at) in
    let pins = text_in head.files file.Pins in
    let keeps = sym (text_is head file.Keep keep kept) in
    let same : rules_in (head ∷ places) ≡ rules_for hosts pins keep = λ i. rules_for (texts i) pins (keeps i) in
    same ∙ ap (λ found. found >>= λ unowned. Ok (rules_by pins keep unowned)) none

-- ---- replies

-- a reply that is told of what was found
told_of : {X : Type 0} (lines : X → List ℕ) (found : Result X Fault) (reply : Result (List ℕ) Fault) → (reply ≡ (found >>= λ x. Ok (lines x))) ↔ TellsFound lines found reply
told_of lines (Ok x) reply = (λ e. e, λ e. e)
told_of lines (Err f) reply = (λ e. e, λ e. e)

told_by : {X : Type 0} (lines : X → List ℕ) (found : Result X Fault) (right reply : Result (List ℕ) Fault) → right ≡ (found >>= λ x. Ok (lines x)) → (reply ≡ right) ↔ TellsFound lines found reply
told_by lines found right reply same =
    let told = told_of lines found reply in
    (λ is. told.0 (is ∙ same), λ tells. told.1 tells ∙ sym same)

pub counts_have_their_map : CountsHaveTheirMap
counts_have_their_map head places hosts rules text reply at by its =
    let next : SiteRules → Result (List ℕ) Fault = λ read. counted (host_texts places) read.keep (text_in head.files file.Map) in
    let hosts_at = sym (hosts_are places hosts at) in
    let text_there = sym (text_is head file.Map text its) in
    let same : (rules_in (head ∷ places) >>= next) ≡ counted hosts rules.keep text =
    ap (λ read. read >>= next) (rules_are head places hosts rules at by) ∙ (λ i. counted (hosts_at i) rules.keep (text_there i)) in
    told_by cost_lines (count_of hosts rules.keep text) (rules_in (head ∷ places) >>= next) reply same

pub checks_have_their_certificate : ChecksHaveTheirCertificate
checks_have_their_certificate head places hosts rules text reply at by its =
    let next : SiteRules → Result (List ℕ) Fault = λ read. checked (host_texts places) read (text_in head.files file.Certificate) in
    let hosts_at = sym (hosts_are places hosts at) in
    let text_there = sym (text_is head file.Certificate text its) in
    let same : (rules_in (head ∷ places) >>= next) ≡ checked hosts rules text =
    ap (λ read. read >>= next) (rules_are head places hosts rules at by) ∙ (λ i. checked (hosts_at i) rules (text_there i)) in
    told_by accepted_line (check_of hosts rules text) (rules_in (head ∷ places) >>= next) reply same

-- the same by cases of the reply
abbrev IsRightFor : {X : Type 0} → (WholeSite → X → Type 0) → (X → List ℕ) → Result WholeSite Fault → Result (List ℕ) Fault → Type 0
IsRightFor {X} IsRight lines read (Ok text) = (site : WholeSite) × (read ≡ Ok site) × (right : X) × IsRight site right × (text ≡ lines right)
IsRightFor IsRight lines read (Err f) = read ≡ Err f

right_told : {X : Type 0} (IsRight : WholeSite → X → Type 0) (lines : X → List ℕ) (read : Result WholeSite Fault) (reply : Result (List ℕ) Fault)
    → IsRightFor IsRight lines read reply ↔ TellsRight IsRight lines read reply
right_told IsRight lines (Ok site) (Ok text) = (
  λ h. (h.2, subst (λ (s : WholeSite). IsRight s h.2) (sym (ok_same site h.0 h.1)) h.3, ap (λ (t : List ℕ). Ok t) h.4),
  λ h. (site, refl, h.0, h.1, ok_same text (lines h.0) h.2),
)
right_told IsRight lines (Ok site) (Err f) = (λ h. absurd (cc), λ h. absurd (let no = h.2 in cc))
right_told IsRight lines (Err g) (Ok text) = (λ h. absurd (let no = h.1 in cc), λ h. absurd (cc))
right_told IsRight lines (Err g) (Err f) = (λ h. let same : g ≡ f = (cc) in ap (λ (e : Fault). Err e) (sym same), λ h. let same : f ≡ g = (cc) in ap (λ (e : Fault). Err e) (sym same))

merge_told : (hosts : List HostText) (rules : SiteRules) (reply : Result (List ℕ) Fault) → IsMergeTold hosts rules reply ↔ TellsRight IsOutcome (merge_lines hosts) (site_read hosts rules) reply
merge_told hosts rules (Ok text) = right_told IsOutcome (merge_lines hosts) (site_read hosts rules) (Ok text)
merge_told hosts rules (Err f) = right_told IsOutcome (merge_lines hosts) (site_read hosts rules) (Err f)

merge_with_hosts_told : (hosts : List HostText) (rules : SiteRules) (reply : Result (List ℕ) Fault)
    → IsMergeWithHostsTold hosts rules reply ↔ TellsRight (AreSiteFiles hosts) (site_lines hosts) (site_read hosts rules) reply
merge_with_hosts_told hosts rules (Ok text) = right_told (AreSiteFiles hosts) (site_lines hosts) (site_read hosts rules) (Ok text)
merge_with_hosts_told hosts rules (Err f) = right_told (AreSiteFiles hosts) (site_lines hosts) (site_read hosts rules) (Err f)

-- what is told by the hosts and the rules that are there
by_rules : (IsTold : List HostText → SiteRules → Result (List ℕ) Fault → Type 0) (Tells : Type 0) (head : Place) (places : List Place) (hosts : List HostText) (rules : SiteRules) (reply : Result (List ℕ) Fault)
    → AreHostsAt places hosts → AreRulesAt head hosts rules → IsTold hosts rules reply ↔ Tells → IsToldBy (IsTold (host_texts places)) (rules_in (head ∷ places)) reply ↔ Tells
by_rules IsTold Tells head places hosts rules reply at by told =
    let texts : host_texts places ≡ hosts = sym (hosts_are places hosts at) in
    let is : rules_in (head ∷ places) ≡ Ok rules = rules_are head places hosts rules at by in
    let By : Result SiteRules Fault → Type 0 = λ read. IsToldBy (IsTold (host_texts places)) read reply in
    let Of : List HostText → Type 0 = λ these. IsTold these rules reply in
    (λ it. told.0 (subst Of texts (subst By is it)), λ it. subst By (sym is) (subst Of (sym texts) (told.1 it)))

pub merges_have_their_hosts : MergesHaveTheirHosts
merges_have_their_hosts head places hosts rules reply at by = (
  by_rules IsMergeTold (TellsRight IsOutcome (merge_lines hosts) (site_read hosts rules) reply) head places hosts rules reply at by (merge_told hosts rules reply),
  by_rules IsMergeWithHostsTold (TellsRight (AreSiteFiles hosts) (site_lines hosts) (site_read hosts rules) reply) head places hosts rules reply at by (merge_with_hosts_told hosts rules reply),
)

-- where there are none their fault is the reply
none_by : (tells : SiteRules → Result (List ℕ) Fault → Type 0) (rules : Result SiteRules Fault) (f : Fault) (reply : Result (List ℕ) Fault) → rules ≡ Err f → IsToldBy tells rules reply ↔ (reply ≡ Err f)
none_by tells (Ok rules) f reply none = absurd (cc)
none_by tells (Err g) f reply none =
    let same : g ≡ f = (cc) in
    (λ told. told ∙ ap (λ (e : Fault). Err e) same, λ is. is ∙ ap (λ (e : Fault). Err e) (sym same))

none_then : {X Y : Type 0} (read : Result X Fault) (next : X → Result Y Fault) (f : Fault) (reply : Result Y Fault) → read ≡ Err f → (reply ≡ (read >>= next)) ↔ (reply ≡ Err f)
none_then read next f reply none =
    let same : (read >>= next) ≡ Err f = ap (λ r. r >>= next) none in
    (λ is. is ∙ same, λ is. is ∙ sym same)

pub surveys_refuse : SurveysRefuse
surveys_refuse Count head places hosts keep f reply other at kept none =
    none_then (rules_in (head ∷ places)) (λ rules. counted (host_texts places) rules.keep (text_in head.files file.Map)) f reply (no_rules_are head places hosts keep f at kept none)
surveys_refuse Merge head places hosts keep f reply other at kept none =
    none_by (IsMergeTold (host_texts places)) (rules_in (head ∷ places)) f reply (no_rules_are head places hosts keep f at kept none)
surveys_refuse MergeHosts head places hosts keep f reply other at kept none =
    none_by (IsMergeWithHostsTold (host_texts places)) (rules_in (head ∷ places)) f reply (no_rules_are head places hosts keep f at kept none)
surveys_refuse Check head places hosts keep f reply other at kept none =
    none_then (rules_in (head ∷ places)) (λ rules. checked (host_texts places) rules (text_in head.files file.Certificate)) f reply (no_rules_are head places hosts keep f at kept none)
surveys_refuse Rehearse head places hosts keep f reply other at kept none = absurd (other refl)

pub rehearsals_have_their_files : RehearsalsHaveTheirFiles
rehearsals_have_their_files head places plan mtree reply planned listed =
    let plans : plan ≡ text_in head.files file.Plan = text_is head file.Plan plan planned in
    let mtrees : mtree ≡ text_in head.files file.Mtree = text_is head file.Mtree mtree listed in
    let ByPlan : Result ℕ Fault → List ℕ → Type 0 = λ found its. IsRehearsed its mtree found in
    let ByMtree : Result ℕ Fault → List ℕ → Type 0 = λ found its. IsRehearsed (text_in head.files file.Plan) its found in (
      λ told. (told.0, subst (ByPlan told.0) (sym plans) (subst (ByMtree told.0) (sym mtrees) told.1), (told_of records_lines told.0 reply).0 told.2),
      λ told. (told.0, subst (ByMtree told.0) mtrees (subst (ByPlan told.0) plans told.1), (told_of records_lines told.0 reply).1 told.2),
    )
