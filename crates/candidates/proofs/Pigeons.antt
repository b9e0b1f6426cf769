-- A pool with as many numbers as its class has names: while one of them waits, a number is left.
use Rattle.std.proofs.Common.{◌≡◌, ℕ, zero, suc, ◌+◌, ◌<◌, ◌≤◌, ◌^◌, ◌==◌, ◌&&◌, ◌||◌, ◌⊎◌, Bool, true, false, not, cond, List, [], ◌∷◌, length, get_or, Option, None, Some, refl, sym, ◌∙◌, ap, arith, inl, inr, take}
use Rattle.std.specs.List.{count_by}
use Rattle.std.proofs.Math.Bool.{and-false, and-true}
use Rattle.std.proofs.lemmas.Bool.{cases_Bool, cases_lt, cases_eq, ne_eqb, and_parts, false≢true, true≢false, both_ways, not-true, leb-true}
use Rattle.std.proofs.lemmas.List.Sums.{sum_by-cons}
use Rattle.logindefs.specs.declared.ranges.IdRange.{IdRange}
use Rattle.hosts_join.specs.Accounts.{Accounts, Account, no_account}
use Rattle.hosts_join.specs.Count.{count_below}
use Rattle.hosts_join.specs.Lawful.{AreLawfulAccounts}
use Rattle.hosts_join.specs.RangeLists.{lies_in_some}
use Rattle.hosts_join.specs.Rules.{in_pool, is_free_class, is_given_away, is_reserved, class_of, same_class, names_in, pool_size, class_at}
use Rattle.hosts_join.specs.declared.Class.{Class}
use Rattle.hosts_join.specs.declared.Class.TheVariants.{Pinned, Regular, System}
use Rattle.candidates.specs.Fill.{gift}
use Rattle.candidates.specs.Settled.{is_had, times, IsStart, IsLeft}
use Rattle.hosts_join.proofs.ReservedLaws.{pin-taken}
use Rattle.candidates.proofs.FillLemmas.{IsFillSoFar, cursor_of, some-none, some-same}

pub search-below : (p : ℕ → Bool) (n : ℕ) → ((v : ℕ) × (v < n) × (p v ≡ true)) ⊎ ((v : ℕ) → v < n → p v ≡ false)
search-below p zero = inr (λ v h. absurd (omega arith))
search-below p (suc n) = elim (search-below p n) [
  | inl found ↦ inl (found.0, omega (arith, found.1), found.2)
  | inr none ↦ elim (cases_Bool (p n)) [
    | inl t ↦ inl (n, omega arith, t)
    | inr f ↦ inr (λ v h. elim (cases_lt v n) [ inl less ↦ none v less | inr more ↦ let e : v ≡ n = omega arith in ap p e ∙ f ])
  ]
]

below-same : (p q : ℕ → Bool) (n : ℕ) → ((v : ℕ) → v < n → p v ≡ q v) → count_below p n ≡ count_below q n
unfolding count_below
below-same p q zero same = refl
below-same p q (suc n) same = rw (same n (omega arith), below-same p q n (λ v h. same v (omega arith))) refl

below-none : (p : ℕ → Bool) (n : ℕ) → ((v : ℕ) → v < n → p v ≡ false) → count_below p n ≡ 0
unfolding count_below
below-none p zero none = refl
below-none p (suc n) none = rw (none n (omega arith), below-none p n (λ v h. none v (omega arith))) refl

cond-le-more : (b : Bool) (m : ℕ) → m ≤ m + cond b 1 0
cond-le-more true m = omega arith
cond-le-more false m = omega arith

below-but : (p : ℕ → Bool) (w n : ℕ) → count_below p n ≤ count_below (λ v. p v && not (w == v)) n + cond (p w) 1 0
unfolding count_below
below-but p w zero = omega arith
below-but p w (suc n) = elim (cases_eq w n) [
  | inl e ↦
      let same = below-same p (λ v. p v && not (w == v)) n (λ v h. rw (ne_eqb w v (λ q. omega (arith, q, e))) (sym (and-true (p v)))) in
      let one : cond {A = ℕ} (p w) 1 0 ≡ cond (p n) 1 0 = ap (λ m. cond {A = ℕ} (p m) 1 0) e in
      omega (arith, same, one, cond-le-more (p n && not (w == n)) (count_below (λ v. p v && not (w == v)) n))
  | inr ne ↦
      let same : (p n && not (w == n)) ≡ p n = rw (ne_eqb w n ne) (and-true (p n)) in
      let one : cond {A = ℕ} (p n && not (w == n)) 1 0 ≡ cond (p n) 1 0 = ap (λ b. cond {A = ℕ} b 1 0) same in
      omega (arith, below-but p w n, one)
]

abbrev passes : (ℕ → Bool) → Option ℕ → Bool
passes p None = false
passes p (Some w) = p w

count-weaker : {X : Type 0} (p q : X → Bool) (xs : List X) → ((x : X) → p x ≡ true → q x ≡ true) → count_by p xs ≤ count_by q xs
count-weaker p q [] imp = omega arith
count-weaker {X} p q (x ∷ xs) imp =
    let cp = sum_by-cons (λ (x : X). cond (p x) 1 0) x xs in
    let cq = sum_by-cons (λ (x : X). cond (q x) 1 0) x xs in
    let rest = count-weaker p q xs imp in
    elim (cases_Bool (p x)) [
      | inl t ↦ omega (arith, cp, cq, rest, ap (λ b. cond {A = ℕ} b 1 0) t, ap (λ b. cond {A = ℕ} b 1 0) (imp x t))
      | inr f ↦ omega (arith, cp, cq, rest, ap (λ b. cond {A = ℕ} b 1 0) f)
    ]

-- numbers that are all had are no more than the names that have them
pigeons : (p : ℕ → Bool) (n : ℕ) (os : List (Option ℕ)) → ((v : ℕ) → v < n → p v ≡ true → is_had os v ≡ true) → count_below p n ≤ count_by (passes p) os
pigeons p n [] all = omega (arith, below-none p n (λ v h. elim (cases_Bool (p v)) [ inl t ↦ absurd (false≢true (all v h t)) | inr f ↦ f ]))
pigeons p n (None ∷ os) all = omega (arith, pigeons p n os all, sum_by-cons (λ (o : Option ℕ). cond (passes p o) 1 0) None os)
pigeons p n (Some w ∷ os) all =
    let q : ℕ → Bool = λ v. p v && not (w == v) in
    let rest = pigeons q n os (λ v h t.
    let parts = and_parts (p v) (not (w == v)) t in
    let there = all v h parts.0 in
    let there' = rw (not-true (w == v) parts.1) at there in there') in
    omega (arith, rest, below-but p w n, sum_by-cons (λ (o : Option ℕ). cond (passes p o) 1 0) (Some w) os, count-weaker (passes q) (passes p) os (weaker q (λ v t. (and_parts (p v) (not (w == v)) t).0)))
  where
    weaker : (q : ℕ → Bool) → ((v : ℕ) → q v ≡ true → p v ≡ true) → (o : Option ℕ) → passes q o ≡ true → passes p o ≡ true
    weaker q imp None t = absurd (false≢true t)
    weaker q imp (Some v) t = imp v t

module _ {A B : Type 0} (p : A → Bool) (q : B → Bool) (da : A) (db : B) where
  count-along : (xs : List A) (ys : List B) → length xs ≡ length ys → ((j : ℕ) → j < length xs → p (get_or xs j da) ≡ true → q (get_or ys j db) ≡ true) → count_by p xs ≤ count_by q ys
  count-along [] ys e imp = omega arith
  count-along (x ∷ xs) [] e imp = absurd (omega arith)
  count-along (x ∷ xs) (y ∷ ys) e imp =
      let cp = sum_by-cons (λ (x : A). cond (p x) 1 0) x xs in
      let cq = sum_by-cons (λ (y : B). cond (q y) 1 0) y ys in
      let rest = count-along xs ys (omega arith) (λ j h t. imp (suc j) (omega arith) t) in
      elim (cases_Bool (p x)) [
        | inl t ↦ omega (arith, cp, cq, rest, ap (λ b. cond {A = ℕ} b 1 0) t, ap (λ b. cond {A = ℕ} b 1 0) (imp 0 (omega arith) t))
        | inr f ↦ omega (arith, cp, cq, rest, ap (λ b. cond {A = ℕ} b 1 0) f)
      ]

  count-less : (xs : List A) (ys : List B) (i : ℕ) → length xs ≡ length ys → ((j : ℕ) → j < length xs → p (get_or xs j da) ≡ true → q (get_or ys j db) ≡ true) → i < length xs → p (get_or xs i da) ≡ false → q (get_or ys i db) ≡ true → count_by p xs < count_by q ys
  count-less [] ys i e imp h f t = absurd (omega arith)
  count-less (x ∷ xs) [] i e imp h f t = absurd (omega arith)
  count-less (x ∷ xs) (y ∷ ys) zero e imp h f t =
      let cp = sum_by-cons (λ (x : A). cond (p x) 1 0) x xs in
      let cq = sum_by-cons (λ (y : B). cond (q y) 1 0) y ys in
      omega (arith, cp, cq, count-along xs ys (omega arith) (λ j h t. imp (suc j) (omega arith) t), ap (λ b. cond {A = ℕ} b 1 0) f, ap (λ b. cond {A = ℕ} b 1 0) t)
  count-less (x ∷ xs) (y ∷ ys) (suc i) e imp h f t =
      let cp = sum_by-cons (λ (x : A). cond (p x) 1 0) x xs in
      let cq = sum_by-cons (λ (y : B). cond (q y) 1 0) y ys in
      let rest = count-less xs ys i (omega arith) (λ j h t. imp (suc j) (omega arith) t) (omega arith) f t in
      elim (cases_Bool (p x)) [
        | inl s ↦ omega (arith, cp, cq, rest, ap (λ b. cond {A = ℕ} b 1 0) s, ap (λ b. cond {A = ℕ} b 1 0) (imp 0 (omega arith) s))
        | inr s ↦ omega (arith, cp, cq, rest, ap (λ b. cond {A = ℕ} b 1 0) s)
      ]

-- a pin is in no pool
pub pin-away : (a : Accounts) (j v : ℕ) (c : Class) → j < length a.names → class_at a j ≡ Pinned v → in_pool a c v ≡ false
pin-away a j v c h e = none c (ap (λ b. b || is_reserved a.reserved v) (pin-taken a j v h e))
  where
    none : (c : Class) → is_given_away a v ≡ true → in_pool a c v ≡ false
    none (Pinned w) t = refl
    none Regular t = rw t (and-false _)
    none System t = rw t (and-false _)

-- two free classes with one number in their pools are one, where there is a name
one-class : (a : Accounts) (c d : Class) (v : ℕ) → AreLawfulAccounts a → 0 < length a.names → in_pool a c v ≡ true → in_pool a d v ≡ true → same_class c d ≡ true
one-class a (Pinned u) d v l h p q = absurd (false≢true p)
one-class a Regular (Pinned u) v l h p q = absurd (false≢true q)
one-class a Regular Regular v l h p q = refl
one-class a Regular System v l h p q = absurd (omega (arith, l.pools_apart v p q))
one-class a System (Pinned u) v l h p q = absurd (false≢true q)
one-class a System Regular v l h p q = absurd (omega (arith, l.pools_apart v q p))
one-class a System System v l h p q = refl

pub pool-id : (a : Accounts) (c : Class) (v : ℕ) → in_pool a c v ≡ true → v ≤ 4294967294
pool-id a (Pinned u) v p = absurd (false≢true p)
pool-id a Regular v p = leb-true v 4294967294 (and_parts _ _ (and_parts _ _ p).0).0
pool-id a System v p = leb-true v 4294967294 (and_parts _ _ (and_parts _ _ p).0).0

module _ (a : Accounts) (start : List (Option ℕ)) (ws : List ℕ) (k : ℕ) (numbers : List (Option ℕ)) (regular system : ℕ) (lawful : AreLawfulAccounts a) (st : IsStart a start) (s : IsFillSoFar a start ws k numbers regular system) where
  -- whoever has a number of the pool is of the class
  holder : (c : Class) (j w : ℕ) → j < length a.names → gift numbers j ≡ Some w → in_pool a c w ≡ true → same_class c (class_at a j) ≡ true
  holder c j w h e p = by (class_at a j) refl
    where
      member : is_free_class (class_at a j) ≡ true → in_pool a (class_at a j) w ≡ true
      member free = split (gift start j) refl
        where
          split : (o : Option ℕ) → gift start j ≡ o → in_pool a (class_at a j) w ≡ true
          split (Some u) g = st.pooled j w free (g ∙ sym (s.kept j u g) ∙ e)
          split None g = elim (cases_eq (times j (take k ws)) 0) [
            | inl z ↦ absurd (some-none e (s.todo j g z))
            | inr nz ↦ let d = s.did j g (omega arith) in let same : d.number ≡ w = some-same (sym d.has ∙ e) in ap (in_pool a (class_at a j)) (sym same) ∙ d.member
          ]

      by : (d : Class) → class_at a j ≡ d → same_class c (class_at a j) ≡ true
      by (Pinned u) g = absurd (
          let has = s.kept j u (st.pinned j u (omega (arith, st.len)) g) in
          let same : u ≡ w = some-same (sym has ∙ e) in
          both_ways (in_pool a c w) (ap (in_pool a c) (sym same) ∙ pin-away a j u c h g) p)
      by Regular g = one-class a c (class_at a j) w lawful (omega arith) p (member (ap is_free_class g))
      by System g = one-class a c (class_at a j) w lawful (omega arith) p (member (ap is_free_class g))

  pub one-left : (c : Class) (i : ℕ) (pool : List IdRange) → same_class c (class_at a i) ≡ true → names_in a c ≤ pool_size a c → ((v : ℕ) → lies_in_some pool v ≡ in_pool a c v) → i < length a.names → gift numbers i ≡ None → IsLeft pool numbers (cursor_of regular system c)
  one-left c i pool free enough is h none = elim (search-below (λ v. in_pool a c v && not (is_had numbers v)) (2 ^ 32)) [
    | inl f ↦
        let parts = and_parts (in_pool a c f.0) (not (is_had numbers f.0)) f.2 in
        let fresh = not-true (is_had numbers f.0) parts.1 in
        record {
          number = f.0;
          above = elim (cases_lt f.0 (cursor_of regular system c)) [ inl less ↦ absurd (both_ways (is_had numbers f.0) fresh (s.below c f.0 parts.0 less)) | inr more ↦ more ];
          member = is f.0 ∙ parts.0;
          fresh = fresh;
        }
    | inr all ↦ absurd (
        let long : length numbers ≡ length a.names = s.len ∙ st.len in
        let many = pigeons (in_pool a c) (2 ^ 32) numbers (λ v l t. elim (cases_Bool (is_had numbers v)) [ inl y ↦ y | inr f ↦ absurd (let no' = all v l in let no'' = rw (t, f) at no' in true≢false no'') ]) in
        let none' : passes (in_pool a c) (gift numbers i) ≡ false = ap (passes (in_pool a c)) none in
        let few = count-less (passes (in_pool a c)) (λ (n : Account). same_class c (class_of a.pins n)) None no_account numbers a.names i long (λ j l t. passed c j (omega (arith, long)) (gift numbers j) refl t) (omega (arith, long)) none' free in
        omega (arith, many, few, enough))
  ]
    where
      passed : (c : Class) (j : ℕ) → j < length a.names → (o : Option ℕ) → gift numbers j ≡ o → passes (in_pool a c) (gift numbers j) ≡ true → same_class c (class_at a j) ≡ true
      passed c j l None e t = absurd (let t' = rw e at t in false≢true t')
      passed c j l (Some w) e t = let t' : in_pool a c w ≡ true = rw e at t in holder c j w l e t'
