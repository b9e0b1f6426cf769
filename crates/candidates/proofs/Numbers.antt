-- Numbers of names.
use Rattle.std.proofs.Common.{◌≡◌, ℕ, zero, suc, ◌+◌, ◌<◌, ◌==◌, ◌||◌, Bool, true, false, cond, List, [], ◌∷◌, length, take, set, Option, None, Some, refl, ◌∙◌, ap, arith, inl, inr}
use Rattle.std.proofs.Math.Bool.{or-false, or-true}
use Rattle.std.proofs.lemmas.Bool.{cases_Bool, eqb-true, eq-eqb, false≢true}
use Rattle.std.proofs.lemmas.List.Folds.{list_any_more}
use Rattle.candidates.specs.Fill.{gift}
use Rattle.ownership.specs.Files.{is_number}
use Rattle.candidates.specs.Settled.{is_had}

pub had-set : (xs : List (Option ℕ)) (i n v : ℕ) → i < length xs → gift xs i ≡ None → is_had (set xs i (Some n)) v ≡ cond (n == v) true (is_had xs v)
had-set [] i n v h e = absurd (omega arith)
had-set (x ∷ xs) zero n v h e = rw e (cases (n == v) (is_had xs v))
  where
    cases : (a b : Bool) → (a || b) ≡ cond a true b
    cases true b = refl
    cases false b = refl
had-set (x ∷ xs) (suc i) n v h e = rw (had-set xs i n v (omega arith) e) (cases (is_number v x) (n == v) (is_had xs v))
  where
    cases : (a b c : Bool) → (a || cond b true c) ≡ cond b true (a || c)
    cases true true c = refl
    cases true false c = refl
    cases false true c = refl
    cases false false c = refl

or-cond : (a b : Bool) → (a || b) ≡ cond b true a
or-cond true true = refl
or-cond true false = refl
or-cond false true = refl
or-cond false false = refl

pub had-more : (xs : List (Option ℕ)) (k v n : ℕ) → k < length xs → gift xs k ≡ Some n → is_had (take (k + 1) xs) v ≡ cond (n == v) true (is_had (take k xs) v)
had-more xs k v n h e = list_any_more (is_number v) xs k None h ∙ ap (λ o. is_had (take k xs) v || is_number v o) e ∙ or-cond (is_had (take k xs) v) (n == v)

pub had-skip : (xs : List (Option ℕ)) (k v : ℕ) → k < length xs → gift xs k ≡ None → is_had (take (k + 1) xs) v ≡ is_had (take k xs) v
had-skip xs k v h e = list_any_more (is_number v) xs k None h ∙ ap (λ o. is_had (take k xs) v || is_number v o) e ∙ or-false _

-- a number is had where a name has it
pub had-by : (xs : List (Option ℕ)) (v : ℕ) → is_had xs v ≡ true → (j : ℕ) × (j < length xs) × (gift xs j ≡ Some v)
had-by [] v e = absurd (false≢true e)
had-by (None ∷ xs) v e = let r = had-by xs v e in (suc r.0, omega (arith, r.1), r.2)
had-by (Some n ∷ xs) v e = elim (cases_Bool (n == v)) [
  | inl t ↦ (0, omega arith, ap Some (eqb-true n v t))
  | inr f ↦ let e' = rw f at e in let r = had-by xs v e' in (suc r.0, omega (arith, r.1), r.2)
]

pub had-at : (xs : List (Option ℕ)) (j v : ℕ) → gift xs j ≡ Some v → is_had xs v ≡ true
had-at [] j v e = absurd (none e)
  where
    none : ◌≡◌ {A = Option ℕ} None (Some v) → ⊥
    none e = (cc)
had-at (x ∷ xs) zero v e = rw (e, eq-eqb v v refl) refl
had-at (x ∷ xs) (suc j) v e = rw (had-at xs j v e) (or-true (is_number v x))
