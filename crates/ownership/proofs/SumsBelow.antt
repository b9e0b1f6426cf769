-- Sums over the indices below a bound.
use Rattle.std.proofs.Common.{◌≡◌, ℕ, zero, suc, ◌+◌, ◌*◌, ◌<◌, ◌≤◌, ◌==◌, false, cond, List, length, get_or, take, refl, sym, ap, ◌∙◌, arith, add-one, inl, inr}
use Rattle.std.specs.List.{sum_by}
use Rattle.std.proofs.lemmas.List.{take_all}
use Rattle.std.proofs.lemmas.List.Sums.{sum_by_more}
use Rattle.std.proofs.lemmas.Bool.{eqb-true, eqb-false, ne_eqb, cases_Bool}
use Rattle.ownership.specs.Sums.{sum_below}

-- the sum over one more index
pub sum_below_more : (f : ℕ → ℕ) (n : ℕ) → sum_below f (n + 1) ≡ sum_below f n + f n
unfolding sum_below
sum_below_more f n = rw (add-one n) refl

pub sum_below-le : (f g : ℕ → ℕ) (n : ℕ) → ((k : ℕ) → k < n → f k ≤ g k) → sum_below f n ≤ sum_below g n
unfolding sum_below
sum_below-le f g zero h = omega arith
sum_below-le f g (suc n) h =
    let rest : sum_below f n ≤ sum_below g n = sum_below-le f g n (λ k l. h k (omega arith)) in
    let last : f n ≤ g n = h n (omega arith) in
    omega (arith, rest, last)

pub sum_below-same : (f g : ℕ → ℕ) (n : ℕ) → ((k : ℕ) → k < n → f k ≡ g k) → sum_below f n ≡ sum_below g n
unfolding sum_below
sum_below-same f g zero h = refl
sum_below-same f g (suc n) h =
    let rest : sum_below f n ≡ sum_below g n = sum_below-same f g n (λ k l. h k (omega arith)) in
    let last : f n ≡ g n = h n (omega arith) in
    omega (arith, rest, last)

-- terms that are no more one by one, and no less together, are the same one by one
pub sum_below-tight : (f g : ℕ → ℕ) (n : ℕ) → ((k : ℕ) → k < n → f k ≤ g k) → sum_below g n ≤ sum_below f n → (k : ℕ) → k < n → f k ≡ g k
unfolding sum_below
sum_below-tight f g zero h all k l = absurd (omega arith)
sum_below-tight f g (suc n) h all k l =
    let rest : sum_below f n ≤ sum_below g n = sum_below-le f g n (λ j m. h j (omega arith)) in
    let last : f n ≤ g n = h n (omega arith) in
    elim (cases_Bool (k == n)) [
      | inl t ↦ let e : k ≡ n = eqb-true k n t in rw e (omega (arith, all, rest, last))
      | inr d ↦ let ne : k ≡ n → ⊥ = eqb-false k n d in sum_below-tight f g n (λ j m. h j (omega arith)) (omega (arith, all, last)) k (omega (arith, l, ne))
    ]

pub sum_below-add : (f g : ℕ → ℕ) (n : ℕ) → sum_below (λ k. f k + g k) n ≡ sum_below f n + sum_below g n
unfolding sum_below
sum_below-add f g zero = refl
sum_below-add f g (suc n) = let rest = sum_below-add f g n in omega (arith, rest)

pub sum_below-scale : (b : ℕ) (f : ℕ → ℕ) (n : ℕ) → sum_below (λ k. b * f k) n ≡ b * sum_below f n
unfolding sum_below
sum_below-scale b f zero = omega arith
sum_below-scale b f (suc n) = let rest = sum_below-scale b f n in omega (arith, rest)

pub sum_below-zero : (n : ℕ) → sum_below (λ k. 0) n ≡ 0
unfolding sum_below
sum_below-zero zero = refl
sum_below-zero (suc n) = let rest = sum_below-zero n in omega (arith, rest)

-- terms that are 0 but at one index
sum_below-past : (o : ℕ) (f : ℕ → ℕ) (n : ℕ) → n ≤ o → sum_below (λ k. cond (k == o) (f k) 0) n ≡ 0
unfolding sum_below
sum_below-past o f zero h = refl
sum_below-past o f (suc n) h =
    let rest = sum_below-past o f n (omega arith) in
    let other : (n == o) ≡ false = ne_eqb n o (λ e. omega (arith, e, h)) in
    rw other (omega (arith, rest))

pub sum_below-pick : (o : ℕ) (f : ℕ → ℕ) (n : ℕ) → o < n → sum_below (λ k. cond (k == o) (f k) 0) n ≡ f o
unfolding sum_below
sum_below-pick o f zero h = absurd (omega arith)
sum_below-pick o f (suc n) h = elim (cases_Bool (n == o)) [
  | inl t ↦
      let same : n ≡ o = eqb-true n o t in
      let rest = sum_below-past o f n (omega (arith, same)) in
      let there : f n ≡ f o = ap f same in
      rw t (omega (arith, rest, there))
  | inr d ↦
      let differ : n ≡ o → ⊥ = eqb-false n o d in
      let rest = sum_below-pick o f n (omega (arith, h, differ)) in
      rw d (omega (arith, rest))
]

-- over the indices of a list
pub sum_below-taken : {X : Type 0} (f : X → ℕ) (xs : List X) (d : X) (n : ℕ) → n ≤ length xs → sum_below (λ k. f (get_or xs k d)) n ≡ sum_by f (take n xs)
unfolding sum_below
sum_below-taken f xs d zero h = refl
sum_below-taken f xs d (suc n) h =
    let rest = sum_below-taken f xs d n (omega arith) in
    let more : sum_by f (take (n + 1) xs) ≡ sum_by f (take n xs) + f (get_or xs n d) = sum_by_more f xs n d (omega arith) in
    let here : sum_by f (take (suc n) xs) ≡ sum_by f (take n xs) + f (get_or xs n d) = ap (λ m. sum_by f (take m xs)) (sym (add-one n)) ∙ more in
    omega (arith, rest, here)

pub sum_below-places : {X : Type 0} (f : X → ℕ) (xs : List X) (d : X) → sum_below (λ k. f (get_or xs k d)) (length xs) ≡ sum_by f xs
sum_below-places f xs d = sum_below-taken f xs d (length xs) (omega arith) ∙ ap (sum_by f) (take_all (length xs) xs (omega arith))
