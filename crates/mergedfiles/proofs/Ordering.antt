-- Items whose keys differ stand in one order only.
use Rattle.std.proofs.Common.{◌≡◌, ℕ, zero, suc, ◌+◌, ◌<◌, Bool, true, false, List, [], ◌∷◌, length, get_or, refl, sym, ◌∙◌, ap, inl, inr, arith, ◌⊎◌}
use Rattle.std.specs.List.{Contains, IsDistinct, AllByRecursion}
use Rattle.std.specs.List.Sorted.{IsPermutation, IsSortedBy}
use Rattle.std.specs.Cmp.{IsTotalOrder}
use Rattle.std.specs.declared.cmp.Ordering.{Ordering}
use Rattle.std.specs.declared.cmp.Ordering.TheVariants.{Less, Equal, Greater}
use Rattle.std.specs.Ordering.{is_lt, is_eq, ordering_reverse}
use Rattle.std.proofs.lemmas.Bool.{cases_Bool, both_ways}
use Rattle.std.proofs.lemmas.List.Sorted.{Contains-permutation, IsPermutation-sym}
use Rattle.std.proofs.lemmas.List.MinMax.{ranks_by}
use Rattle.std.proofs.lemmas.Map.Keys.{IsDistinct-head, IsDistinct-tail, IsDistinct-IsPermutation}
use Rattle.mergedfiles.specs.Order.{put, in_order}

-- the item is one of the list
abbrev pub In : {X : Type 0} → X → List X → Type 0
In x [] = ⊥
In x (y ∷ ys) = (x ≡ y) ⊎ In x ys

pub in-at : {X : Type 0} (x d : X) (xs : List X) (k : ℕ) → k < length xs → get_or xs k d ≡ x → In x xs
in-at x d [] k h e = absurd (omega arith)
in-at x d (y ∷ xs) zero h e = inl (sym e)
in-at x d (y ∷ xs) (suc k) h e = inr (in-at x d xs k (omega arith) e)

pub at-in : {X : Type 0} (x : X) (xs : List X) → In x xs → Contains xs x
at-in x [] i = absurd i
at-in x (y ∷ xs) (inl e) = (0, omega arith, sym e)
at-in x (y ∷ xs) (inr i) = let c = at-in x xs i in (suc c.0, omega (arith, c.1), c.2)

moved : {X : Type 0} (x : X) (xs ys : List X) → IsPermutation xs ys → In x xs → In x ys
moved x xs ys p i = let c = Contains-permutation xs ys x p (at-in x xs i) in in-at x x ys c.0 c.1 c.2

less-is : (o : Ordering) → is_lt o ≡ true → o ≡ Less
less-is Less e = refl
less-is Equal e = absurd (cc)
less-is Greater e = absurd (cc)

either-way : (o p : Ordering) → p ≡ ordering_reverse o → is_eq o ≡ false → (is_lt o ≡ true) ⊎ (is_lt p ≡ true)
either-way Less p r e = inl refl
either-way Equal p r e = absurd (cc)
either-way Greater p r e = inr (rw r refl)

same-turned : (o p : Ordering) → p ≡ ordering_reverse o → is_eq o ≡ is_eq p
same-turned Less p r = rw r refl
same-turned Equal p r = rw r refl
same-turned Greater p r = rw r refl

module _ {K : Type 0} {R : K → K → Ordering} (o : IsTotalOrder R) {X : Type 0} (key : X → K) where
  abbrev before : X → X → Bool
  before x y = is_lt (R (key x) (key y))

  abbrev tied : X → X → Bool
  tied x y = is_eq (R (key x) (key y))

  one-way : (x y : X) → before x y ≡ true → before y x ≡ false
  one-way x y t = (ranks_by o key).one_way x y t

  chain : (x y z : X) → before x y ≡ true → before y z ≡ true → before x z ≡ true
  chain x y z a b = ap is_lt (o.trans (key x) (key y) (key z) (less-is (R (key x) (key y)) a) (less-is (R (key y) (key z)) b))

  -- one comes before the other
  abbrev Apart : X → X → Type 0
  Apart x y = (before x y ≡ true) ⊎ (before y x ≡ true)

  apart : (x y : X) → tied x y ≡ false → Apart x y
  apart x y e = either-way (R (key x) (key y)) (R (key y) (key x)) (o.antisymm (key y) (key x)) e

  turned : (x y : X) → Apart x y → before x y ≡ false → before y x ≡ true
  turned x y (inl t) f = absurd (both_ways (before x y) f t)
  turned x y (inr t) f = t

  abbrev pub Ahead : X → List X → Type 0
  Ahead x ys = (y : X) → In y ys → before x y ≡ true

  abbrev AllApart : X → List X → Type 0
  AllApart x ys = (y : X) → In y ys → Apart x y

  abbrev pub Ascends : List X → Type 0
  Ascends [] = Unit {0}
  Ascends (x ∷ xs) = Ahead x xs × Ascends xs

  abbrev Differ : List X → Type 0
  Differ [] = Unit {0}
  Differ (x ∷ xs) = AllApart x xs × Differ xs

  -- what is put in is among the others, and nothing else is
  behind : (z x y : X) (ys : List X) → (z ≡ x) ⊎ In z ys → (z ≡ x) ⊎ In z (y ∷ ys)
  behind z x y ys (inl e) = inl e
  behind z x y ys (inr i) = inr (inr i)

  behind-first : (z x y : X) (ys zs : List X) → (In z zs → (z ≡ x) ⊎ In z ys) → In z (y ∷ zs) → (z ≡ x) ⊎ In z (y ∷ ys)
  behind-first z x y ys zs rest (inl e) = inr (inl e)
  behind-first z x y ys zs rest (inr i) = behind z x y ys (rest i)

  put-in : (z x : X) (ys : List X) → In z (put before x ys) → (z ≡ x) ⊎ In z ys
  put-in z x [] i = i
  put-in z x (y ∷ ys) i = elim (cases_Bool (before x y)) [
    | inl t ↦ rw t at i
    | inr f ↦ behind-first z x y ys (put before x ys) (put-in z x ys) (rw f at i)
  ]

  rest-in : (z x y : X) (ys zs : List X) → ((z ≡ x) ⊎ In z ys → In z zs) → (z ≡ x) ⊎ In z (y ∷ ys) → In z (y ∷ zs)
  rest-in z x y ys zs rest (inl e) = inr (rest (inl e))
  rest-in z x y ys zs rest (inr (inl e)) = inl e
  rest-in z x y ys zs rest (inr (inr i)) = inr (rest (inr i))

  in-put : (z x : X) (ys : List X) → (z ≡ x) ⊎ In z ys → In z (put before x ys)
  in-put z x [] i = i
  in-put z x (y ∷ ys) i = elim (cases_Bool (before x y)) [
    | inl t ↦ rw t i
    | inr f ↦ rw f (rest-in z x y ys (put before x ys) (in-put z x ys) i)
  ]

  among : (z x : X) (xs ys : List X) → (In z ys → In z xs) → (z ≡ x) ⊎ In z ys → In z (x ∷ xs)
  among z x xs ys rest (inl e) = inl e
  among z x xs ys rest (inr i) = inr (rest i)

  pub ordered-in : (z : X) (xs : List X) → In z (in_order before xs) → In z xs
  unfolding in_order
  ordered-in z [] i = i
  ordered-in z (x ∷ xs) i = among z x xs (in_order before xs) (ordered-in z xs) (put-in z x (in_order before xs) i)

  pub in-ordered : (z : X) (xs : List X) → In z xs → In z (in_order before xs)
  unfolding in_order
  in-ordered z [] i = i
  in-ordered z (x ∷ xs) (inl e) = in-put z x (in_order before xs) (inl e)
  in-ordered z (x ∷ xs) (inr i) = in-put z x (in_order before xs) (inr (in-ordered z xs i))

  -- the one in front comes before those that another comes before
  front : (x y : X) (ys : List X) → before x y ≡ true → Ahead y ys → Ahead x (y ∷ ys)
  front x y ys t a z (inl e) = rw e t
  front x y ys t a z (inr i) = chain x y z t (a z i)

  ahead-put : (x y : X) (ys : List X) → before y x ≡ true → Ahead y ys → (z : X) → (z ≡ x) ⊎ In z ys → before y z ≡ true
  ahead-put x y ys t a z (inl e) = rw e t
  ahead-put x y ys t a z (inr i) = a z i

  ascends-put : (x : X) (ys : List X) → AllApart x ys → Ascends ys → Ascends (put before x ys)
  ascends-put x [] differ a = ((λ z i. absurd i), tt)
  ascends-put x (y ∷ ys) differ a = elim (cases_Bool (before x y)) [
    | inl t ↦ rw t (front x y ys t a.0, a)
    | inr f ↦ rw f ((λ z i. ahead-put x y ys (turned x y (differ y (inl refl)) f) a.0 z (put-in z x ys i)), ascends-put x ys (λ z i. differ z (inr i)) a.1)
  ]

  pub ascends-in_order : (xs : List X) → Differ xs → Ascends (in_order before xs)
  unfolding in_order
  ascends-in_order [] d = tt
  ascends-in_order (x ∷ xs) d = ascends-put x (in_order before xs) (λ z i. d.0 z (ordered-in z xs i)) (ascends-in_order xs d.1)

  all-apart : (x : X) (xs : List X) → AllByRecursion (λ y. tied x y ≡ false) xs → AllApart x xs
  all-apart x [] a y i = absurd i
  all-apart x (z ∷ xs) a y (inl e) = rw e (apart x z a.0)
  all-apart x (z ∷ xs) a y (inr i) = all-apart x xs a.1 y i

  pub differ : (xs : List X) → IsDistinct tied xs → Differ xs
  differ [] d = tt
  differ (x ∷ xs) d = (all-apart x xs (IsDistinct-head tied x xs d), differ xs (IsDistinct-tail tied x xs d))

  -- sorted items whose keys differ
  ascends-sorted : (ys : List X) → IsSortedBy before ys → IsDistinct tied ys → Ascends ys
  ascends-sorted [] s d = tt
  ascends-sorted (y ∷ []) s d = ((λ z i. absurd i), tt)
  ascends-sorted (y ∷ z ∷ zs) s d =
      let rest = ascends-sorted (z ∷ zs) (λ k d low high. let e : suc k + 1 ≡ suc (k + 1) = omega arith in let q = s (suc k) d (omega arith) (omega arith) in rw e at q) (IsDistinct-tail tied y (z ∷ zs) d) in
      let first = (all-apart y (z ∷ zs) (IsDistinct-head tied y (z ∷ zs) d)) z (inl refl) in
      (front y z zs (turned z y (swapped y z first) (s 0 y (omega arith) (omega arith))) rest.0, rest)
    where
      swapped : (a b : X) → Apart a b → Apart b a
      swapped a b (inl t) = inr t
      swapped a b (inr t) = inl t

  -- two ascending lists of the same items are one
  one-first : (x y : X) (xs ys : List X) → Ahead x xs → Ahead y ys → In x (y ∷ ys) → In y (x ∷ xs) → x ≡ y
  one-first x y xs ys a b (inl e) j = e
  one-first x y xs ys a b (inr i) (inl e) = sym e
  one-first x y xs ys a b (inr i) (inr j) = absurd (both_ways (before x y) (one-way y x (b x i)) (a y j))

  later : (x y z : X) (ys : List X) → x ≡ y → before x z ≡ true → In z (y ∷ ys) → In z ys
  later x y z ys e t (inl q) = let t' : before z z ≡ true = rw (e ∙ sym q) at t in absurd (both_ways (before z z) (one-way z z t') t')
  later x y z ys e t (inr i) = i

  one-order : (xs ys : List X) → Ascends xs → Ascends ys → ((z : X) → In z xs → In z ys) → ((z : X) → In z ys → In z xs) → xs ≡ ys
  one-order [] [] a b f g = refl
  one-order [] (y ∷ ys) a b f g = absurd (g y (inl refl))
  one-order (x ∷ xs) [] a b f g = absurd (f x (inl refl))
  one-order (x ∷ xs) (y ∷ ys) a b f g =
      let same : x ≡ y = one-first x y xs ys a.0 b.0 (f x (inl refl)) (g y (inl refl)) in
      let rest : xs ≡ ys = one-order xs ys a.1 b.1 (λ z i. later x y z ys same (a.0 z i) (f z (inr i))) (λ z i. later y x z xs (sym same) (b.0 z i) (g z (inr i))) in
      (cc)

  -- what a sort gives
  pub in-order : (xs ys : List X) → IsPermutation xs ys → IsSortedBy before ys → IsDistinct tied xs → ys ≡ in_order before xs
  in-order xs ys p s d =
      let d' = IsDistinct-IsPermutation tied (λ x y. same-turned (R (key x) (key y)) (R (key y) (key x)) (o.antisymm (key y) (key x))) xs ys p d in
      one-order ys (in_order before xs) (ascends-sorted ys s d') (ascends-in_order xs (differ xs d))
      (λ z i. in-ordered z xs (moved z ys xs (IsPermutation-sym xs ys p) i)) (λ z i. moved z xs ys p (ordered-in z xs i))
