-- The names that wait, among all names in byte order.
use Rattle.std.proofs.Common.{◌≡◌, ◌≢◌, ℕ, zero, suc, ◌+◌, ◌<◌, ◌≤◌, ◌==◌, ◌&&◌, Bool, true, false, cond, List, [], ◌∷◌, ◌++◌, length, map, get_or, Option, refl, sym, ◌∙◌, ap, arith, inl, inr}
use Rattle.std.specs.Prelude.{nat_lt}
use Rattle.std.specs.List.{All, count_by, range_with_len}
use Rattle.std.specs.Option.{is_none}
use Rattle.std.specs.Cmp.Lexicographic.{slice_cmp}
use Rattle.std.specs.Ordering.{nat_cmp, is_lt}
use Rattle.std.specs.declared.cmp.Ordering.TheVariants.{Less}
use Rattle.std.proofs.lemmas.Bool.{cases_Bool, cases_lt, eqb-true, ne_eqb, eq-eqb, lt-ltb, le-ltb, true≢false}
use Rattle.std.proofs.lemmas.Cmp.{nat_list_cmp_total}
use Rattle.std.proofs.lemmas.List.Elements.{All-nil, All-cons, All-head, All-tail, All-get_or, All-from_get_or}
use Rattle.std.proofs.lemmas.List.Sums.{sum_by-cons}
use Rattle.std.proofs.lemmas.List.Sorted.{ranks_by, sorted_far, sum_by-IsPermutation}
use Rattle.hosts_join.specs.Accounts.{Accounts}
use Rattle.hosts_join.specs.Order.{name_at, AreInByteOrder}
use Rattle.candidates.specs.Fill.{gift}
use Rattle.candidates.specs.Settled.{times, AreWaiting}

module _ (a : Accounts) (numbers : List (Option ℕ)) where
  -- those of the places whose names wait
  abbrev pub waiting_among : List ℕ → List ℕ
  waiting_among [] = []
  waiting_among (i ∷ is) = cond (is_none (gift numbers i)) (i ∷ waiting_among is) (waiting_among is)

  pub waits-more : (is : List ℕ) (i : ℕ) → is_none (gift numbers i) ≡ true → waiting_among (is ++ i ∷ []) ≡ waiting_among is ++ i ∷ []
  waits-more [] i none = rw none refl
  waits-more (j ∷ is) i none = elim (cases_Bool (is_none (gift numbers j))) [
    | inl t ↦ rw t (ap (λ (ws : List ℕ). j ∷ ws) (waits-more is i none))
    | inr f ↦ rw f (waits-more is i none)
  ]

  pub waits-not : (is : List ℕ) (i : ℕ) → is_none (gift numbers i) ≡ false → waiting_among (is ++ i ∷ []) ≡ waiting_among is
  waits-not [] i some = rw some refl
  waits-not (j ∷ is) i some = elim (cases_Bool (is_none (gift numbers j))) [
    | inl t ↦ rw t (ap (λ (ws : List ℕ). j ∷ ws) (waits-not is i some))
    | inr f ↦ rw f (waits-not is i some)
  ]

  times-among : (i : ℕ) (is : List ℕ) → times i (waiting_among is) ≡ cond (is_none (gift numbers i)) (count_by (λ j. j == i) is) 0
  times-among i [] = elim (cases_Bool (is_none (gift numbers i))) [ inl t ↦ rw t refl | inr f ↦ rw f refl ]
  times-among i (j ∷ is) =
      let ws = waiting_among is in
      let rest = times-among i is in
      let counts = sum_by-cons (λ k. cond {A = ℕ} (k == i) 1 0) j is in
      let more = sum_by-cons (λ k. cond {A = ℕ} (k == i) 1 0) j ws in
      elim (cases_Bool (j == i)) [
        | inl same ↦ let one : j ≡ i = eqb-true j i same in elim (cases_Bool (is_none (gift numbers i))) [
          | inl t ↦ let u : is_none (gift numbers j) ≡ true = ap (λ k. is_none (gift numbers k)) one ∙ t in
              let rest' : times i ws ≡ count_by (λ k. k == i) is = rw t at rest in
              rw (u, t) (omega (arith, more, counts, rest'))
          | inr f ↦ let u : is_none (gift numbers j) ≡ false = ap (λ k. is_none (gift numbers k)) one ∙ f in
              let rest' : times i ws ≡ 0 = rw f at rest in
              rw (u, f) rest'
        ]
        | inr other ↦
            let no = ap (λ b. cond {A = ℕ} b 1 0) other in
            let same : count_by (λ k. k == i) (j ∷ is) ≡ count_by (λ k. k == i) is = omega (arith, counts, no) in
            let rest' : times i ws ≡ cond (is_none (gift numbers i)) (count_by (λ k. k == i) (j ∷ is)) 0 = rest ∙ ap (λ n. cond {A = ℕ} (is_none (gift numbers i)) n 0) (sym same) in
            elim (cases_Bool (is_none (gift numbers j))) [
              | inl t ↦ rw t (omega (arith, more, no) ∙ rest')
              | inr f ↦ rw f rest'
            ]
      ]

  all-among : (P : List ℕ → Type 0) (is : List ℕ) → All P (map (name_at a.names) is) → All (λ w. P (name_at a.names w)) (waiting_among is)
  all-among P [] all = All-nil _
  all-among P (i ∷ is) all = elim (cases_Bool (is_none (gift numbers i))) [
    | inl t ↦ rw t (All-cons (λ (w : ℕ). P (name_at a.names w)) i (waiting_among is) (All-head P (name_at a.names i) (map (name_at a.names) is) all) (all-among P is (All-tail P (name_at a.names i) (map (name_at a.names) is) all)))
    | inr f ↦ rw f (all-among P is (All-tail P (name_at a.names i) (map (name_at a.names) is) all))
  ]

-- no text is less than one before it
abbrev Rises : List (List ℕ) → Type 0
Rises xs = (j k : ℕ) → j < k → k < length xs → slice_cmp nat_cmp (get_or xs k []) (get_or xs j []) ≢ Less

rises-tail : (x : List ℕ) (xs : List (List ℕ)) → Rises (x ∷ xs) → Rises xs
rises-tail x xs up j k low high = up (suc j) (suc k) (omega arith) (omega arith)

rises-head : (x : List ℕ) (xs : List (List ℕ)) → Rises (x ∷ xs) → All (λ y. slice_cmp nat_cmp y x ≢ Less) xs
rises-head x xs up = All-from_get_or (λ y. slice_cmp nat_cmp y x ≢ Less) xs [] (λ i low. up 0 (suc i) (omega arith) (omega arith))

-- what stands after the first
abbrev Later : Accounts → List ℕ → List ℕ → Type 0
Later a name ws = All (λ w. slice_cmp nat_cmp (name_at a.names w) name ≢ Less) ws

abbrev RisesWith : Accounts → List ℕ → Type 0
RisesWith a ws = (j k : ℕ) → j < k → k < length ws → slice_cmp nat_cmp (name_at a.names (get_or ws k 0)) (name_at a.names (get_or ws j 0)) ≢ Less

rises-cons : (a : Accounts) (i : ℕ) (ws : List ℕ) → Later a (name_at a.names i) ws → RisesWith a ws → RisesWith a (i ∷ ws)
rises-cons a i ws later up j zero low high = absurd (omega arith)
rises-cons a i ws later up zero (suc k) low high = All-get_or (λ (w : ℕ). slice_cmp nat_cmp (name_at a.names w) (name_at a.names i) ≢ Less) ws k 0 (omega arith) later
rises-cons a i ws later up (suc j) (suc k) low high = up j k (omega arith) (omega arith)

rises-among : (a : Accounts) (numbers : List (Option ℕ)) (is : List ℕ) → Rises (map (name_at a.names) is) → RisesWith a (waiting_among a numbers is)
rises-among a numbers [] up = λ j k low high. absurd (omega arith)
rises-among a numbers (i ∷ is) up =
    let name = name_at a.names i in
    let names = map (name_at a.names) is in
    let rest = rises-among a numbers is (rises-tail name names up) in
    elim (cases_Bool (is_none (gift numbers i))) [
      | inl t ↦ rw t (rises-cons a i (waiting_among a numbers is) (all-among a numbers (λ y. slice_cmp nat_cmp y name ≢ Less) is (rises-head name names up)) rest)
      | inr f ↦ rw f rest
    ]

-- how often a number is in a run of numbers
none-below : (n a i : ℕ) → i < a → count_by (λ j. j == i) (range_with_len a n) ≡ 0
none-below zero a i low = refl
none-below (suc n) a i low = omega (arith, sum_by-cons (λ j. cond {A = ℕ} (j == i) 1 0) a (range_with_len (a + 1) n), ap (λ b. cond {A = ℕ} b 1 0) (ne_eqb a i (λ e. omega (arith, e, low))), none-below n (a + 1) i (omega arith))

once-within : (n a i : ℕ) → a ≤ i → count_by (λ j. j == i) (range_with_len a n) ≡ cond (nat_lt i (a + n)) 1 0
once-within zero a i low = rw (le-ltb i (a + 0) (omega arith)) refl
once-within (suc n) a i low =
    let counts = sum_by-cons (λ j. cond {A = ℕ} (j == i) 1 0) a (range_with_len (a + 1) n) in
    elim (cases_Bool (a == i)) [
      | inl t ↦ let same : a ≡ i = eqb-true a i t in
          rw (lt-ltb i (a + suc n) (omega arith)) (omega (arith, counts, ap (λ b. cond {A = ℕ} b 1 0) t, none-below n (a + 1) i (omega arith)))
      | inr f ↦
          let rest : count_by (λ j. j == i) (range_with_len (a + 1) n) ≡ cond (nat_lt i (a + 1 + n)) 1 0 = once-within n (a + 1) i (above f) in
          let ends : a + 1 + n ≡ a + suc n = omega arith in
          omega (arith, counts, ap (λ b. cond {A = ℕ} b 1 0) f) ∙ rest ∙ ap (λ m. cond {A = ℕ} (nat_lt i m) 1 0) ends
    ]
  where
    above : (a == i) ≡ false → a + 1 ≤ i
    above f = elim (cases_lt a i) [
      | inl less ↦ omega arith
      | inr more ↦ absurd (true≢false (sym (eq-eqb a i (omega arith)) ∙ f))
    ]

-- those of all names in byte order are those that wait
pub are-waiting : (a : Accounts) (numbers : List (Option ℕ)) (order : List ℕ) → AreInByteOrder a.names order → AreWaiting a numbers (waiting_among a numbers order)
are-waiting a numbers order is = record {
  once = λ i. times-among a numbers i order ∙ ap (λ n. cond {A = ℕ} (is_none (gift numbers i)) n 0) (all i) ∙ both i (is_none (gift numbers i));
  ordered = rises-among a numbers order far;
}
  where
    n : ℕ
    n = length a.names

    all : (i : ℕ) → count_by (λ j. j == i) order ≡ cond (nat_lt i n) 1 0
    all i = sum_by-IsPermutation (λ j. cond (j == i) 1 0) (range_with_len 0 n) order is.each_once ∙ once-within n 0 i (omega arith) ∙ ap (λ m. cond {A = ℕ} (nat_lt i m) 1 0) from-none
      where
        from-none : 0 + n ≡ n
        from-none = omega arith

    both : (i : ℕ) (b : Bool) → cond {A = ℕ} b (cond (nat_lt i n) 1 0) 0 ≡ cond (nat_lt i n && b) 1 0
    both i b = elim (cases_Bool b) [
      | inl t ↦ elim (cases_Bool (nat_lt i n)) [ inl u ↦ rw (t, u) refl | inr v ↦ rw (t, v) refl ]
      | inr f ↦ elim (cases_Bool (nat_lt i n)) [ inl u ↦ rw (f, u) refl | inr v ↦ rw (f, v) refl ]
    ]

    far : Rises (map (name_at a.names) order)
    far j k low high less =
        let not_less = sorted_far (λ (x y : List ℕ). is_lt (slice_cmp nat_cmp x y)) (ranks_by nat_list_cmp_total (λ (x : List ℕ). x)) (map (name_at a.names) order) is.ascending j k [] (omega arith) high in
        let not_less' = rw less at not_less in true≢false not_less'
