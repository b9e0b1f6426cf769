-- What two passes give is what a merge may answer.
use Rattle.std.proofs.Common.{◌≡◌, ℕ, suc, ◌+◌, List, [], ◌∷◌, length, map, Some, refl, sym, ap, subst, ◌∙◌, arith}
use Rattle.std.specs.List.{slice_get}
use Rattle.std.proofs.lemmas.Option.{same_Some}
use Rattle.hosts_join.specs.Site.{Joined}
use Rattle.hosts_join.specs.declared.host.Host.{Host}
use Rattle.mtree_inv.specs.declared.entry.Entry.{Entry}
use Rattle.ownership.specs.declared.mapping.Mappings.{Mappings}
use Rattle.reown_plan.specs.Spelling as plan
use Rattle.reown_plan.specs.Target.{plan_of, host_plan}
use Rattle.unify.specs.declared.merging.Merged.{Merged}
use Rattle.unify.specs.Merging.{IsMerged}
use Rattle.unify.specs.Outcomes.{IsOutcome, IsPrinted, hosts_in, plan_texts, plan_texts_from}
use Rattle.unify.specs.Reading.{WholeSite}
use Rattle.unify_laws.specs.TwoPasses.{AreWholePlans, TwoPassesAreCorrect}
use Rattle.unify_laws.proofs.Correct.{name_is, outcomes_are_correct}

-- texts that are the plans index by index are the plan texts
texts_are : (hosts : List Host) (site : Joined) (m : Mappings) (start : ℕ) (all : List (Host × List Entry)) (plans : List (List ℕ)) → length plans ≡ length all
    → ((k : ℕ) (host : Host) (files : List Entry) → slice_get all k ≡ Some (host, files) → slice_get plans k ≡ Some (plan.spelling (host_plan hosts site m (start + k) files)))
    → plans ≡ plan_texts_from hosts site m start (map (λ h. h.1) all)
texts_are hosts site m start [] [] same at = refl
texts_are hosts site m start [] (p ∷ ps) same at = absurd (omega (arith, same))
texts_are hosts site m start (h ∷ hs) [] same at = absurd (omega (arith, same))
texts_are hosts site m start (h ∷ hs) (p ∷ ps) same at =
    let here : start + 0 ≡ start = omega arith in
    let text = λ (i : ℕ) (files : List Entry). plan.spelling (host_plan hosts site m i files) in
    let first : p ≡ text start h.1 = same_Some p (text (start + 0) h.1) (at 0 h.0 h.1 refl) ∙ ap (λ i. text i h.1) here in
    let rest : ps ≡ plan_texts_from hosts site m (start + 1) (map (λ h. h.1) hs) = texts_are hosts site m (start + 1) hs ps (omega (arith, same)) (λ k host files there.
    let behind : start + suc k ≡ (start + 1) + k = omega arith in
    at (suc k) host files there ∙ ap (λ i. Some (text i files)) behind) in
    ap (λ t. t ∷ ps) first ∙ ap (λ ts. text start h.1 ∷ ts) rest

plans_are : (site : WholeSite) (merged : Merged) (plans : List (List ℕ)) → AreWholePlans site merged plans → plans ≡ plan_texts site merged.mappings
plans_are site merged plans are = texts_are (hosts_in site) site.joined merged.mappings 0 site.hosts plans are.one_each (λ k host files here.
    let from_zero : k ≡ 0 + k = omega arith in
    are.each_plan k host files here
    ∙ ap (λ (name : List ℕ). Some (plan.spelling (record { host = name; records = plan_of site.joined merged.mappings k files }))) (sym (name_is site k host files here))
    ∙ ap (λ i. Some (plan.spelling (host_plan (hosts_in site) site.joined merged.mappings i files))) from_zero)

pub with_plans : (site : WholeSite) (merged : Merged) (plans : List (List ℕ)) → IsMerged site merged → AreWholePlans site merged plans → IsOutcome site (record merged.outcome { plans = plans })
with_plans site merged plans is are = record {
  mappings = merged.mappings;
  certificate = is.certificate;
  answered = is.answered;
  printed = subst (λ ts. IsPrinted site merged.mappings is.certificate (record merged.outcome { plans = ts })) (sym (plans_are site merged plans are)) is.printed.printed;
}

pub two_passes_are_correct : TwoPassesAreCorrect
two_passes_are_correct site merged plans whole is are = outcomes_are_correct site (record merged.outcome { plans = plans }) whole (with_plans site merged plans is are)
