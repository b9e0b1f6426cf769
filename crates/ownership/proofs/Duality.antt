-- Weak duality: what covers all pairs bounds what numbers weigh that are all distinct.
use Rattle.std.proofs.Common.{◌≡◌, ◌≢◌, ℕ, zero, suc, ◌+◌, ◌<◌, ◌≤◌, ◌==◌, false, cond, List, [], ◌∷◌, refl, sym, ◌∙◌, arith, inl, inr}
use Rattle.std.specs.List.{sum_by}
use Rattle.std.proofs.lemmas.List.Sums.{sum_by-cons}
use Rattle.std.proofs.lemmas.Bool.{eqb-true, ne_eqb, cases_Bool}
use Rattle.ownership.specs.Sums.{sum_below}
use Rattle.ownership.specs.Potentials.{value_at}
use Rattle.ownership.proofs.SumsBelow.{sum_below-le, sum_below-add, sum_below-zero, sum_below-same}

-- no two indices below n have one number
abbrev pub AreApart : (ℕ → ℕ) → ℕ → Type 0
AreApart m n = (i j : ℕ) → i < j → j < n → m i ≢ m j

-- distinct numbers meet the number v at most once
once : (f m : ℕ → ℕ) (v x n : ℕ) → AreApart m n → sum_below (λ k. cond (v == m k) x (f k)) n ≤ x + sum_below f n
unfolding sum_below
once f m v x zero apart = omega arith
once f m v x (suc n) apart = elim (cases_Bool (v == m n)) [
  | inl t ↦
      let same : v ≡ m n = eqb-true v (m n) t in
      let rest = sum_below-same (λ k. cond (v == m k) x (f k)) f n (λ k l. let other : (v == m k) ≡ false = ne_eqb v (m k) (λ q. apart k n l (omega arith) (sym q ∙ same)) in rw other refl) in
      rw t (omega (arith, rest))
  | inr d ↦ let rest = once f m v x n (λ i j l k. apart i j l (omega arith)) in rw d (omega (arith, rest))
]

-- distinct numbers have no more than all of z
pub values-le : (z : List (ℕ × ℕ)) (m : ℕ → ℕ) (n : ℕ) → AreApart m n → sum_below (λ k. value_at z (m k)) n ≤ sum_by (λ e. e.1) z
values-le [] m n apart = omega (arith, sum_below-zero n)
values-le (e ∷ es) m n apart =
    let first = once (λ k. value_at es (m k)) m e.0 e.1 n apart in
    let rest = values-le es m n apart in
    rw (sum_by-cons (λ (p : ℕ × ℕ). p.1) e es) (omega (arith, first, rest))

-- nor have they with one number more that is none of them
pub values-and-one : (z : List (ℕ × ℕ)) (m : ℕ → ℕ) (n v : ℕ) → AreApart m n → ((k : ℕ) → k < n → m k ≢ v) → sum_below (λ k. value_at z (m k)) n + value_at z v ≤ sum_by (λ e. e.1) z
values-and-one [] m n v apart away = omega (arith, sum_below-zero n)
values-and-one (e ∷ es) m n v apart away =
    let rest = values-and-one es m n v apart away in
    elim (cases_Bool (e.0 == v)) [
      | inl t ↦
          let is : e.0 ≡ v = eqb-true e.0 v t in
          let others = sum_below-same (λ k. cond (e.0 == m k) e.1 (value_at es (m k))) (λ k. value_at es (m k)) n (λ k l. let other : (e.0 == m k) ≡ false = ne_eqb e.0 (m k) (λ q. away k l (sym q ∙ is)) in rw other refl) in
          rw (sum_by-cons (λ (p : ℕ × ℕ). p.1) e es, t) (omega (arith, others, rest))
      | inr d ↦
          let first = once (λ k. value_at es (m k)) m e.0 e.1 n apart in
          rw (sum_by-cons (λ (p : ℕ × ℕ). p.1) e es, d) (omega (arith, first, rest))
    ]

-- terms that y and z cover are together no more than all of y and z
pub covered-le : (g y m : ℕ → ℕ) (z : List (ℕ × ℕ)) (n : ℕ) → AreApart m n → ((k : ℕ) → k < n → g k ≤ y k + value_at z (m k)) → sum_below g n ≤ sum_below y n + sum_by (λ e. e.1) z
covered-le g y m z n apart cover =
    let terms = sum_below-le g (λ k. y k + value_at z (m k)) n cover in
    let parts = sum_below-add y (λ k. value_at z (m k)) n in
    let values = values-le z m n apart in
    omega (arith, terms, parts, values)
