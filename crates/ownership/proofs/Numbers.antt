-- Numbers of which each is left once.
use Rattle.std.proofs.Common.{◌≡◌, ℕ, ◌==◌, eqb, true, List, sym, ◌∙◌, inl, inr}
use Rattle.std.specs.List.{list_any, dedup, Contains}
use Rattle.std.proofs.lemmas.Bool.{cases_Bool, eqb-true, eq-eqb, both_ways}
use Rattle.std.proofs.lemmas.List.Folds.{list_any_at}
use Rattle.std.proofs.lemmas.List.Kept.{Contains-dedup_nat, Contains-from_dedup}
use Rattle.std.proofs.lemmas.Map.Views.{Contains-from_any}

contains : (xs : List ℕ) (v : ℕ) → list_any (λ n. v == n) xs ≡ true → Contains xs v
contains xs v there = Contains-from_any eqb-true v xs there

any : (xs : List ℕ) (v : ℕ) → Contains xs v → list_any (λ n. v == n) xs ≡ true
any xs v there = list_any_at (λ n. v == n) xs there.0 v there.1 (eq-eqb v _ (sym there.2))

-- where each number is left once, the same numbers are there
pub any-dedup : (xs : List ℕ) (v : ℕ) → list_any (λ n. v == n) (dedup eqb xs) ≡ list_any (λ n. v == n) xs
any-dedup xs v = elim (cases_Bool (list_any (λ n. v == n) xs)) [
  | inl t ↦ any (dedup eqb xs) v (Contains-dedup_nat xs v (contains xs v t)) ∙ sym t
  | inr f ↦ elim (cases_Bool (list_any (λ n. v == n) (dedup eqb xs))) [
    | inl t ↦ absurd (both_ways _ f (any xs v (Contains-from_dedup eqb xs v (contains (dedup eqb xs) v t))))
    | inr g ↦ g ∙ sym f
  ]
]
