-- The owners of a plan's files, one more at a time; and what they are to a run that goes on.
use Rattle.std.proofs.Common.{◌≡◌, ◌⊎◌, inl, inr, ◌<◌, ◌+◌, ◌-◌, ℕ, zero, suc, Bool, true, false, List, [], ◌∷◌, ◌++◌, get_or, length, refl, sym, ◌∙◌, ap, subst, arith}
use Rattle.std.proofs.lemmas.List.{get_or_append_left, get_or-append_right}
use Rattle.reown_plan.specs.declared.plan.Owner.{Owner}
use Rattle.reown_plan.specs.PlanData.{PlanRecord}
use Rattle.reown_runner.specs.Halfway.{IsHalfway, AreHalfway}
use Rattle.reown_files.specs.declared.stage.Stage.{Stage}
use Rattle.reown_files.specs.Stages.{MayHave, AreAllowed, stage_of}

-- the first n of them
abbrev pub AreAllowedTo : Stage → List PlanRecord → List Owner → ℕ → Type 0
AreAllowedTo stage records owners n =
    (k : ℕ) (d : PlanRecord) (o : Owner) → k < n → MayHave stage (get_or records k d) (get_or owners k o)

either_or : (k i : ℕ) → k < i + 1 → (k < i) ⊎ (k ≡ i)
either_or zero zero h = inr refl
either_or zero (suc i) h = inl (omega arith)
either_or (suc k) zero h = absurd (omega arith)
either_or (suc k) (suc i) h = elim (either_or k i (omega arith)) [ inl less ↦ inl (omega arith) | inr same ↦ inr (ap suc same) ]

module _ (stage : Stage) (records : List PlanRecord) (owners : List Owner) (i : ℕ) (as_many : length owners ≡ i) (owner : Owner) (left : (d : PlanRecord) → MayHave stage (get_or records i d) owner) where
  last : (k : ℕ) (d : PlanRecord) (o : Owner) → k ≡ i → MayHave stage (get_or records k d) (get_or (owners ++ owner ∷ []) k o)
  last k d o e =
      let none : i - i ≡ 0 = omega arith in
      let at : get_or (owners ++ owner ∷ []) i o ≡ owner = get_or-append_right owners (owner ∷ []) i i o as_many (omega arith) ∙ ap (λ n. get_or (owner ∷ []) n o) none in
      subst (λ n. MayHave stage (get_or records n d) (get_or (owners ++ owner ∷ []) n o)) (sym e) (subst (λ x. MayHave stage (get_or records i d) x) (sym at) (left d))

  pub one_more_allowed : AreAllowedTo stage records owners i → AreAllowedTo stage records (owners ++ owner ∷ []) (i + 1)
  one_more_allowed before k d o h =
      elim (either_or k i (omega arith)) [
        | inl less ↦ subst (λ x. MayHave stage (get_or records k d) x) (sym (get_or_append_left owners (owner ∷ []) o k (omega (arith, as_many)))) (before k d o less)
        | inr same ↦ last k d o same
      ]

-- a run may go on from an owner that is allowed
one_half : (mark begun : Bool) (r : PlanRecord) (owner : Owner) → MayHave (stage_of mark begun) r owner → IsHalfway r owner mark
one_half true begun r owner h = (inr h, λ e. h)
one_half false true r owner h = (h, λ e. absurd (let x : false ≡ true = e in cc))
one_half false false r owner h = (inl h, λ e. absurd (let x : false ≡ true = e in cc))

pub all_half : (mark begun : Bool) (records : List PlanRecord) (owners : List Owner) → AreAllowed (stage_of mark begun) records owners → AreHalfway records owners mark
all_half mark begun records owners allowed k d o h = one_half mark begun (get_or records k d) (get_or owners k o) (allowed k d o h)
