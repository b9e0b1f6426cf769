-- Plans, one after the other.
use Rattle.std.proofs.Common.{◌≡◌, ◌+◌, ◌<◌, ◌++◌, ◌∷◌, [], ℕ, List, length, map, Ok, Err, Some, Result, refl, sym, ap, subst, ◌∙◌, arith, inl, inr, append_assoc, append-nil, length-append, eq-or-lt_of_le}
use Rattle.std.specs.Prelude.{◌⊎◌}
use Rattle.std.specs.List.{slice_get}
use Rattle.std.proofs.lemmas.List.Elements.{All-nil, All-push}
use Rattle.std.proofs.lemmas.List.{map-append}
use Rattle.std.proofs.lemmas.Option.{same_Some}
use Rattle.idtext.specs.First.{each}
use Rattle.mtree_inv.specs.declared.entry.Entry.{Entry}
use Rattle.hosts_join.specs.declared.host.Host.{Host}
use Rattle.hosts_join.specs.declared.texts.HostText.{HostText}
use Rattle.unify_texts.specs.declared.fault.Fault.{Fault}
use Rattle.site_tables.specs.declared.host.Loaded.{Loaded}
use Rattle.unify.specs.Count.{site_of}
use Rattle.site_tables.specs.Hosts.{files_of}
use Rattle.site_tables.specs.Loading.{loaded_from}
use Rattle.unify.specs.SecondPass.{IsOfSameSite, SolvedValue, ended_in, or_changed, whole_plan}
use Rattle.unify.proofs.Passing.{each_push, loaded_push}
use Rattle.unify.proofs.Sites.{site_given}
use Rattle.unify.specs.declared.site_files.NamedText.{NamedText}
use Rattle.unify_laws.proofs.OnePiece.{at_end, at_front}
use Rattle.unify_merge.specs.FirstReading.{IsWithinLimit}
use Rattle.unify_merge.specs.Ledger.{Ledger, Reading, after_files}
use Rattle.unify_merge.specs.SecondReading.{ArePlannedFirst, HasPlan, IsReadAgain, PlannedSoFar, plan_files, plan_name}
use Rattle.unify_merge.proofs.Readings.{read_more}

-- ---- one plan more

plan_files_none : (names : List HostText) → plan_files names [] ≡ []
plan_files_none [] = refl
plan_files_none (n ∷ names) = refl

plan_files_push : (names : List HostText) (plans : List (List ℕ)) (name : HostText) (plan : List ℕ) → slice_get names (length plans) ≡ Some name → plan_files names (plans ++ plan ∷ []) ≡ plan_files names plans ++ record { name = plan_name name; text = plan } ∷ []
plan_files_push [] plans name plan here = absurd (cc)
plan_files_push (n ∷ names) [] name plan here =
    let same : n ≡ name = (cc) in
    let one : List NamedText → List NamedText = λ fs. record { name = plan_name n; text = plan } ∷ fs in
    let named : HostText → List NamedText = λ x. record { name = plan_name x; text = plan } ∷ [] in
    ap one (plan_files_none names) ∙ ap named same
plan_files_push (n ∷ names) (p ∷ plans) name plan here =
    let one : List NamedText → List NamedText = λ fs. record { name = plan_name n; text = p } ∷ fs in
    ap one (plan_files_push names plans name plan here)

-- files after files
pub files_more : (one two : List NamedText) (old mid new : Ledger) → mid ≡ record (after_files one old) { read = mid.read; reading = mid.reading; writing = mid.writing } → new ≡ record (after_files two mid) { read = new.read; reading = new.reading; writing = new.writing }
    → new ≡ record (after_files (one ++ two) old) { read = new.read; reading = new.reading; writing = new.writing }
files_more one two old mid new first then =
    let name_of : NamedText → List ℕ = λ file. file.name in
    let clear = ap (λ (l : Ledger). l.is_clear) then ∙ ap (λ (l : Ledger). l.is_clear) first in
    let begun = ap (λ (l : Ledger). l.begun) then ∙ ap (λ (l : Ledger). l.begun ++ map name_of two) first ∙ append_assoc old.begun (map name_of one) (map name_of two) ∙ ap (λ ns. old.begun ++ ns) (sym (map-append name_of one two)) in
    let finished = ap (λ (l : Ledger). l.finished) then ∙ ap (λ (l : Ledger). l.finished ++ two) first ∙ append_assoc old.finished one two in
    let settled = ap (λ (l : Ledger). l.settled) then ∙ ap (λ (l : Ledger). l.settled) first in
    λ j. record { read = new.read; reading = new.reading; is_clear = clear j; begun = begun j; finished = finished j; settled = settled j; writing = new.writing }

pub none_loaded : (hosts : List Host) → loaded_from hosts [] ≡ []
none_loaded [] = refl
none_loaded (h ∷ hosts) = refl

-- no file
pub no_files : (l : Ledger) → l ≡ record (after_files [] l) { read = l.read; reading = l.reading; writing = l.writing }
no_files l =
    let begun = sym (append-nil l.begun) in
    let finished = sym (append-nil l.finished) in
    λ j. record { read = l.read; reading = l.reading; is_clear = l.is_clear; begun = begun j; finished = finished j; settled = l.settled; writing = l.writing }

-- no host as yet
unfoldable pub none_first : (s : SolvedValue) (read : List (Host × List Entry)) → ArePlannedFirst s read 0
unfolding each
none_first s read = record {
  texts = [];
  again = [];
  plans = [];
  texts_are = refl;
  within = All-nil IsWithinLimit;
  again_are = refl;
  plans_are = refl;
  accepted = ap (each site_of) (none_loaded s.hosts);
  each_host = λ k host were within here. absurd (omega (arith, within));
}

pub none_planned : (names : List HostText) (s : SolvedValue) (read : List (Host × List Entry)) (l : Ledger) → PlannedSoFar names s read 0 l l
unfolding none_first
none_planned names s read l = record {
  site = none_first s read;
  readings = sym (append-nil l.read);
  files = no_files l ∙ (λ j. record (after_files (sym (plan_files_none names) j) l) { read = l.read; reading = l.reading; writing = l.writing });
}

unchanged : (host : Host) (r : Result (List Entry) Fault) (files : List Entry) → or_changed host r ≡ Ok files → r ≡ Ok files
unchanged host (Ok fs) files h = h
unchanged host (Err f) files h = absurd (cc)

-- one host more
-- now: the second pass after the hosts before it
pub one_planned : (names : List HostText) (s now : SolvedValue) (read : List (Host × List Entry)) (index : ℕ) (name : HostText) (host : Host) (were : List Entry) (old mid new : Ledger) → PlannedSoFar names s read index old mid
    → IsOfSameSite s now → ended_in now ≡ index → slice_get names index ≡ Some name → slice_get s.hosts index ≡ Some host → slice_get read index ≡ Some (host, were)
    → HasPlan now host were (plan_name name) mid new → PlannedSoFar names s read (index + 1) old new
one_planned names s now read index name host were old mid new so_far site ended named here there plan =
    let whole : whole_plan host now.joined now.merged (ended_in now) plan.files ≡ whole_plan host s.joined s.merged index plan.files = ap (λ (v : SolvedValue). whole_plan host v.joined v.merged (ended_in now) plan.files) site ∙ ap (λ i. whole_plan host s.joined s.merged i plan.files) ended in
    let made = whole_plan host s.joined s.merged index plan.files in
    let l : Loaded = record { host = host; mtree = plan.text } in
    let file : NamedText = record { name = plan_name name; text = made } in
    let read_at : ◌≡◌ {A = List Reading} (record { host = ended_in now; text = plan.text } ∷ []) (record { host = index; text = plan.text } ∷ []) = ap (λ i. record { host = i; text = plan.text } ∷ []) ended in
    let written : new ≡ record (after_files (file ∷ []) mid) { read = new.read; reading = new.reading; writing = new.writing } =
    plan.written ∙ (λ j. record (after_files (record { name = plan_name name; text = whole j } ∷ []) mid) { read = new.read; reading = new.reading; writing = sym (ap (λ (x : Ledger). x.writing) plan.written) j }) in
    record {
      site = record {
        texts = so_far.site.texts ++ plan.text ∷ [];
        again = so_far.site.again ++ (host, plan.files) ∷ [];
        plans = so_far.site.plans ++ made ∷ [];
        texts_are = omega (arith, so_far.site.texts_are, length-append so_far.site.texts (plan.text ∷ []));
        within = All-push IsWithinLimit so_far.site.texts plan.text so_far.site.within plan.within;
        again_are = omega (arith, so_far.site.again_are, length-append so_far.site.again ((host, plan.files) ∷ []));
        plans_are = omega (arith, so_far.site.plans_are, length-append so_far.site.plans (made ∷ []));
        accepted = ap (each site_of) (loaded_push s.hosts so_far.site.texts host plan.text (subst (λ k. slice_get s.hosts k ≡ Some host) (sym so_far.site.texts_are) here))
            ∙ each_push site_of (loaded_from s.hosts so_far.site.texts) l so_far.site.again (host, plan.files) so_far.site.accepted (site_given l plan.text plan.files refl (unchanged host (files_of l) plan.files plan.again.accepted));
        each_host = λ k other others within at. earlier k other others at (eq-or-lt_of_le (omega (arith, within)));
      };
      readings = read_more old.read mid.read new.read index so_far.site.texts plan.text (sym so_far.site.texts_are) so_far.readings (plan.readings ∙ ap (λ rs. mid.read ++ rs) read_at);
      files = files_more (plan_files names so_far.site.plans) (file ∷ []) old mid new so_far.files written
          ∙ (λ j. record (after_files (sym (plan_files_push names so_far.site.plans name made (subst (λ k. slice_get names k ≡ Some name) (sym so_far.site.plans_are) named)) j) old) { read = new.read; reading = new.reading; writing = new.writing });
    }
  where
    earlier : (k : ℕ) (other : Host) (others : List Entry) → slice_get read k ≡ Some (other, others) → (k ≡ index) ⊎ (k < index)
        → (text : List ℕ) × (files : List Entry) × IsReadAgain other others text files × (slice_get (so_far.site.again ++ (host, plan.files) ∷ []) k ≡ Some (other, files))
        × (slice_get (so_far.site.plans ++ whole_plan host s.joined s.merged index plan.files ∷ []) k ≡ Some (whole_plan other s.joined s.merged k files))
    earlier k other others at (inl same) =
        let made = whole_plan host s.joined s.merged index plan.files in
        let again_at = at_end so_far.site.again (host, plan.files) k (omega (arith, same, so_far.site.again_are)) in
        let plan_at = at_end so_far.site.plans made k (omega (arith, same, so_far.site.plans_are)) ∙ ap (λ i. Some (whole_plan host s.joined s.merged i plan.files)) (sym same) in
        let pair : (host, were) ≡ (other, others) = same_Some (host, were) (other, others) (sym there ∙ ap (λ i. slice_get read i) (sym same) ∙ at) in
        subst (λ (p : Host × List Entry). (text : List ℕ) × (files : List Entry) × IsReadAgain p.0 p.1 text files × (slice_get (so_far.site.again ++ (host, plan.files) ∷ []) k ≡ Some (p.0, files))
        × (slice_get (so_far.site.plans ++ made ∷ []) k ≡ Some (whole_plan p.0 s.joined s.merged k files))) pair (plan.text, plan.files, plan.again, again_at, plan_at)
    earlier k other others at (inr less) =
        let was = so_far.site.each_host k other others less at in
        (was.0, was.1, was.2, at_front so_far.site.again (host, plan.files) (other, was.1) k was.3, at_front so_far.site.plans (whole_plan host s.joined s.merged index plan.files) (whole_plan other s.joined s.merged k was.1) k was.4)
