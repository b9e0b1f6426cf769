use Rattle.std.proofs.Common.{◌≡◌, ℕ, List, [], ◌∷◌, ◌++◌, length, map, take, drop, None, sym, ap, ◌∙◌, arith, length-append}
use Rattle.std.specs.Bool.{if◌then◌else◌}
use Rattle.std.proofs.Math.Seq.{take-append_seam}
use Rattle.unify.specs.declared.site_files.NamedText.{NamedText}
use Rattle.unify_bundle.proofs.Parts.{drop_seam, last_gone}
use Rattle.unify_bundle.proofs.site_files.with_files.Goals as goal
use Rattle.unify_bundle.proofs.site_files.with_files.Goals.{else-outcome, then-outcome}

-- how many files come before the plans
first_is : (c : goal.After-drop-files-2) → {n : ℕ} → n ≡ (if c.args.outcome.keeps_names then 2 else 4) → n ≡ c.if-outcome.split_off
first_is c {n} is = elim c.if-outcome.branch [
  | then-outcome w ↦ is ∙ ap (λ b. if b then 2 else 4) w.if-outcome.true ∙ sym w.split_off-is
  | else-outcome w ↦ is ∙ ap (λ b. if b then 2 else 4) w.if-outcome.false ∙ sym w.split_off-is
]

pub returns : goal.returns
returns c = λ plans own p.
    let texts : List NamedText → List (List ℕ) = map (λ (f : NamedText). f.text) in
    let rest = p.planned ++ (own ++ p.report ∷ []) in
    let at : length p.first ≡ c.if-outcome.split_off = first_is c p.first_are in
    let behind : c.in_ok-behind.behind.items ≡ rest = c.in_ok-behind.ensures.tail ∙ (λ j. drop (sym at j) (p.files_are j)) ∙ drop_seam p.first rest in
    let planned : c.split_off-2.new.self.items ≡ p.planned = c.in_ok-own.ensures.items ∙ (λ j. take (sym p.a_plan_each j) (behind j)) ∙ take-append_seam p.planned (own ++ p.report ∷ []) in
    let ended : c.in_ok-own.own.items ≡ own ++ p.report ∷ [] = c.in_ok-own.ensures.tail ∙ (λ j. drop (sym p.a_plan_each j) (behind j)) ∙ drop_seam p.planned (own ++ p.report ∷ []) in
    let some : c.pop-report.result ≡ None → ⊥ = λ none. let cases = rw none at c.pop-report.ensures.cases in let h = c.in_ok-own.own.ok in omega (arith, cases.0, ap length ended, length-append own (p.report ∷ [])) in
    let plans_are : c.in_ok-outcome.field-0 ≡ plans = c.in_ok-outcome.ensures ∙ ap texts planned ∙ p.plans_are in (
      ap (λ (ts : List (List ℕ)). record c.args.outcome { plans = ts }) plans_are,
      last_gone own p.report c.pop-report.new.self.items c.pop-report.result (sym ended ∙ c.pop-report.ensures.items) some,
    )
