-- Which marks are a plan's own, another plan's and a third's.
use Rattle.std.proofs.Common.{◌≡◌, ◌∙◌, ◌++◌, ◌&&◌, inl, inr, ℕ, Bool, true, false, cond, not, List, Option, None, Some, refl, sym, ap, take, drop, length}
use Rattle.std.specs.Prelude.{◌≢◌, ◌↔◌, nat_eq}
use Rattle.std.specs.List.{starts_with}
use Rattle.std.specs.Option.{option_map_or}
use Rattle.std.specs.Str.{bytes_eq}
use Rattle.std.specs.Cmp.Lexicographic.{bytes_decides}
use Rattle.std.proofs.Math.Seq.{take-append_seam}
use Rattle.std.proofs.lemmas.Bool.{cases_Bool, true≢false, and_parts}
use Rattle.std.proofs.lemmas.List.{take-append-drop}
use Rattle.reown_plan.specs.Mark.{mark_of, mark_eq}
use Rattle.reown_plan.specs.PlanData.{PlanData}
use Rattle.reown_plan.specs.declared.mark.PlanMark.{PlanMark}
use Rattle.reown_plan.proofs.Marks.{marks_compare}
use Rattle.reown_reverse.specs.Reverse.{reversed}
use Rattle.reown_files.specs.Laws.{IsMarkable}
use Rattle.reown_files.specs.MarkText.{mark_head, mark_text}
use Rattle.reown_files.proofs.MarksText.{marks_back}
use Rattle.unify_apply.specs.MarkLaws.{BeginsAsMark, MarksAreTold}
use Rattle.unify_apply.specs.Told.{is_of_other, is_of_third}

and_of : (a b : Bool) → a ≡ true → b ≡ true → (a && b) ≡ true
and_of a b x y = ap (λ t. t && b) x ∙ y

never : (b : Bool) → not b ≡ true → ¬ (b ≡ true)
never b none is = true≢false (sym none ∙ ap not is)

begins : (text : List ℕ) → (starts_with nat_eq text mark_head ≡ true) ↔ BeginsAsMark text
begins text = (
  λ e. (
    drop (length mark_head) text,
    sym (take-append-drop (length mark_head) text)
        ∙ ap (λ (head : List ℕ). head ++ drop (length mark_head) text) (sym ((bytes_decides mark_head (take (length mark_head) text)).0 e)),
  ),
  λ h. (bytes_decides mark_head (take (length mark_head) text)).1
      (sym (ap (take (length mark_head)) h.1 ∙ take-append_seam mark_head h.0)),
)

-- it begins as marks do, and is not that one
told : (begun own : Bool) → option_map_or not (cond begun (Some own) None) false ≡ (begun && not own)
told true own = refl
told false own = refl

pub other : (plan : PlanMark) (text : List ℕ) → (is_of_other plan text ≡ true) ↔ (BeginsAsMark text × (text ≢ mark_text plan))
other plan text =
    let begun = starts_with nat_eq text mark_head in
    let own = bytes_eq text (mark_text plan) in
    let decided = bytes_decides text (mark_text plan) in (
      λ e. (
          let parts = and_parts begun (not own) (sym (told begun own) ∙ e) in
          ((begins text).0 parts.0, λ same. never own parts.1 (decided.1 same))
          ),
      λ h. told begun own ∙ and_of begun (not own) ((begins text).1 h.0) (elim (cases_Bool own) [
        | inl is ↦ absurd (h.1 (decided.0 is))
        | inr none ↦ ap not none
      ]),
    )

pub third : (plan : PlanData) (text : List ℕ) → (is_of_third plan text ≡ true)
    ↔ (BeginsAsMark text × (text ≢ mark_text (mark_of plan)) × (text ≢ mark_text (mark_of (reversed plan))))
third plan text =
    let one = other (mark_of plan) text in
    let two = other (mark_of (reversed plan)) text in
    let is_one = is_of_other (mark_of plan) text in
    let is_two = is_of_other (mark_of (reversed plan)) text in (
      λ e. (
          let parts = and_parts is_one is_two e in
          ((one.0 parts.0).0, (one.0 parts.0).1, (two.0 parts.1).1)
          ),
      λ h. and_of is_one is_two (one.1 (h.0, h.1)) (two.1 (h.0, h.2)),
    )

module _ (plan third : PlanData) (is : IsMarkable plan) (is' : IsMarkable third) where
  -- the mark of a plan is another's exactly where it is not this one's
  by_plans : (is_of_other (mark_of plan) (mark_text (mark_of third)) ≡ true) ↔ (mark_of third ≢ mark_of plan)
  by_plans =
      let same = mark_eq (mark_of third) (mark_of plan) in
      let compared = marks_compare (mark_of third) (mark_of plan) in
      let read = ap (λ (o : Option Bool). option_map_or not o false) (marks_back third plan is' is) in (
        λ e one. never same (sym read ∙ e) (compared.1 one),
        λ differ. read ∙ elim (cases_Bool same) [
          | inl one ↦ absurd (differ (compared.0 one))
          | inr none ↦ ap not none
        ],
      )

pub of_plan : (plan third : PlanData) → IsMarkable plan → IsMarkable (reversed plan) → IsMarkable third
    → (is_of_third plan (mark_text (mark_of third)) ≡ true) ↔ ((mark_of third ≢ mark_of plan) × (mark_of third ≢ mark_of (reversed plan)))
of_plan plan third is back is' =
    let text = mark_text (mark_of third) in
    let one = by_plans plan third is is' in
    let two = by_plans (reversed plan) third back is' in
    let is_one = is_of_other (mark_of plan) text in
    let is_two = is_of_other (mark_of (reversed plan)) text in (
      λ e. (let parts = and_parts is_one is_two e in (one.0 parts.0, two.0 parts.1)),
      λ h. and_of is_one is_two (one.1 h.0) (two.1 h.1),
    )

pub marks_told : MarksAreTold
marks_told = record { other = other; third = third; of_plan = of_plan; none = λ plan. refl }
