-- The places of paths in their byte order.
use Rattle.std.proofs.Common.{◌≡◌, ◌≢◌, ℕ, min, zero, suc, ◌<◌, ◌≤◌, ◌+◌, ◌-◌, Bool, true, false, List, [], ◌∷◌, ◌++◌, All, AllPairs, Contains, length, take, get_or, nat_eq, refl, sym, ◌∙◌, ap, subst, arith, zero-add, add-zero, add-one, ⊎_elim}
use Rattle.std.specs.declared.cmp.Ordering.{Ordering}
use Rattle.std.specs.declared.cmp.Ordering.TheVariants.{Less, Equal, Greater}
use Rattle.std.specs.Cmp.{IsTotalOrder, IsStrictWeakOrder}
use Rattle.std.specs.List.{range_with_len}
use Rattle.std.specs.List.Sorted.{IsSortedByKey}
use Rattle.std.specs.Ordering.{nat_cmp, is_lt, is_eq, ordering_index, ordering_then}
use Rattle.std.specs.Cmp.Lexicographic.{slice_cmp}
use Rattle.std.proofs.lemmas.Bool.{cases_lt, true≢false}
use Rattle.std.proofs.lemmas.Bool.Decides.{Decides-eqb, same_from_decides, nat_tests}
use Rattle.std.proofs.lemmas.Cmp.{nat_list_cmp_total, nat_cmp_total, then_total, on_total, tied_itself}
use Rattle.std.proofs.lemmas.List.{get_or_default, length-take-le, get_or-take}
use Rattle.std.proofs.lemmas.List.FromFn.{length-range_with_len, get_or-range_with_len}
use Rattle.std.proofs.lemmas.List.Sorted.{ranks_by, sorted_far, searchable_from_sorted, All-permutation, Contains-permutation}
use Rattle.std.proofs.lemmas.Map.Keys.{IsDistinct-IsPermutation}
use Rattle.std.proofs.lemmas.Map.Made.{AllPairs-from_IsDistinct, IsDistinct-from_AllPairs}
use Rattle.std.proofs.lemmas.Map.Text.{is_eq-slice_cmp}
use Rattle.std.proofs.lemmas.Slice.Eq.{bytes_eq-Decides}
use Rattle.reown_plan.specs.Places.{path_at, place_cmp, ArePlaces, AreFirstDistinct}

-- ---- one place more

pub range_more : (a n : ℕ) → range_with_len a (n + 1) ≡ range_with_len a n ++ (a + n) ∷ []
range_more a n = ap (λ k. range_with_len a k) (add-one n) ∙ by a n
  where
    by : (a n : ℕ) → range_with_len a (suc n) ≡ range_with_len a n ++ (a + n) ∷ []
    by a zero = ap (λ k. k ∷ []) (sym (add-zero a))
    by a (suc n) = ap (λ ks. a ∷ ks) (by (a + 1) n) ∙ ap (λ k. range_with_len a (suc n) ++ k ∷ []) (omega arith)

-- ---- the order

pub same_path : (path target : List ℕ) → slice_cmp nat_cmp path target ≡ Equal → path ≡ target
same_path path target h = (bytes_eq-Decides path target).0 (sym (is_eq-slice_cmp path target) ∙ ap is_eq h)

pub tied_path : (path target : List ℕ) → path ≡ target → slice_cmp nat_cmp path target ≡ Equal
tied_path path target e = subst (λ t. slice_cmp nat_cmp path t ≡ Equal) e (tied_itself nat_list_cmp_total path)

middle_is : (o : Ordering) → 1 ≤ ordering_index o → ordering_index o ≤ 1 → o ≡ Equal
middle_is Less h l = absurd (omega arith)
middle_is Equal h l = refl
middle_is Greater h l = absurd (omega arith)

first_by : (o p : Ordering) → is_lt (ordering_then o p) ≡ false → is_lt o ≡ false
first_by Less p h = h
first_by Equal p h = refl
first_by Greater p h = refl

number_less : (i j : ℕ) → i < j → is_lt (nat_cmp i j) ≡ true
number_less i j h = grind (arith, nat_tests)

module _ (paths : List (List ℕ)) where
  pub place_total : IsTotalOrder (place_cmp paths)
  place_total = then_total (on_total (path_at paths) nat_list_cmp_total) nat_cmp_total

  abbrev pub is_before : ℕ → ℕ → Bool
  is_before x y = is_lt (place_cmp paths x y)

  pub place_order : IsStrictWeakOrder is_before
  place_order = ranks_by place_total (λ (x : ℕ). x)

  -- of two places of one path the less comes first
  pub tied_before : (i j : ℕ) → path_at paths i ≡ path_at paths j → i < j → is_before i j ≡ true
  tied_before i j same less = ap (λ o. is_lt (ordering_then o (nat_cmp i j))) (tied_path (path_at paths i) (path_at paths j) same) ∙ number_less i j less

module _ (paths : List (List ℕ)) (places : List ℕ) where
  abbrev key : ℕ → List ℕ
  key k = path_at paths (get_or places k 0)

  -- a pair of neighbours of one path, of which the second stands at this place
  pub record IsPair (place : ℕ) (k : ℕ) : Type 0 where
    pub within : k + 1 < length places
    pub same : key k ≡ key (k + 1)
    pub at : place ≡ get_or places (k + 1) 0

  -- the least of the second places of such pairs among the neighbours so far, else as many as there are paths
  pub record IsLeast (turn count : ℕ) : Type 0 where
    pub within : count ≤ length paths
    pub least : (k : ℕ) → k + 1 < turn → key k ≡ key (k + 1) → count ≤ get_or places (k + 1) 0
    pub found : count < length paths → (k : ℕ) × IsPair count k

  pub least_at_first : IsLeast 1 (length paths)
  least_at_first = record { within = omega arith; least = λ k h. absurd (omega arith); found = λ h. absurd (omega arith) }

  module _ (turn count new : ℕ) (up : 1 ≤ turn) (short : turn < length places) (before : IsLeast turn count) where
    pub least_same : key (turn - 1) ≡ key turn → new ≡ min count (get_or places turn 0) → IsLeast (turn + 1) new
    least_same same is =
        record {
          within = omega (arith, before.within);
          least = λ k h e.
              ⊎_elim
              (λ (low : k + 1 < turn). (let l = before.least k low e in omega arith))
              (λ (high : turn ≤ k + 1). (let at : get_or places (k + 1) 0 ≡ get_or places turn 0 = ap (λ n. get_or places n 0) (omega arith) in omega arith))
              (cases_lt (k + 1) turn);
          found = λ h.
              ⊎_elim
              (λ (low : get_or places turn 0 < count).
              let here : turn - 1 + 1 ≡ turn = omega arith in
              (turn - 1, record { within = omega arith; same = same ∙ ap key (sym here); at = (let m : new ≡ get_or places turn 0 = omega arith in m) ∙ ap (λ n. get_or places n 0) (sym here) }))
              (λ (high : count ≤ get_or places turn 0).
              let stays : new ≡ count = omega arith in
              let pair = before.found (omega arith) in
              (pair.0, record { within = pair.1.within; same = pair.1.same; at = stays ∙ pair.1.at }))
              (cases_lt (get_or places turn 0) count);
        }

    pub least_other : key (turn - 1) ≢ key turn → new ≡ count → IsLeast (turn + 1) new
    least_other other is =
        record {
          within = omega (arith, before.within);
          least = λ k h e.
              ⊎_elim
              (λ (low : k + 1 < turn). (let l = before.least k low e in omega arith))
              (λ (high : turn ≤ k + 1). absurd (other (ap key (omega arith) ∙ e ∙ ap key (omega arith))))
              (cases_lt (k + 1) turn);
          found = λ h. (let pair = before.found (omega arith) in (pair.0, record { within = pair.1.within; same = pair.1.same; at = is ∙ pair.1.at }));
        }

module _ (paths : List (List ℕ)) (places : List ℕ) (are : ArePlaces paths places) where
  abbrev path : ℕ → List ℕ
  path k = key paths places k

  pub by_path : IsSortedByKey (path_at paths) (slice_cmp nat_cmp) places
  by_path = λ k d low high. first_by _ _ (are.ascending k d low high)

  pub all_within : All (λ place. place < length paths) places
  all_within = All-permutation (λ place. place < length paths) (range_with_len 0 (length paths)) places are.all (λ k d h.
      let within : k < length paths = omega (arith, length-range_with_len 0 (length paths)) in
      rw (get_or-range_with_len 0 (length paths) k d within) (omega arith))

  all_differ : AllPairs (λ x y. x ≢ y) places
  all_differ =
      let range = range_with_len 0 (length paths) in
      let apart : AllPairs (λ x y. x ≢ y) range = λ i j d less within e.
      (let short : j < length paths = omega (arith, length-range_with_len 0 (length paths)) in
      omega (arith, sym (get_or-range_with_len 0 (length paths) i d (omega arith)) ∙ e ∙ get_or-range_with_len 0 (length paths) j d short)) in
      AllPairs-from_IsDistinct Decides-eqb places
      (IsDistinct-IsPermutation nat_eq (λ x y. same_from_decides _ _ (Decides-eqb x y) ((λ e. sym ((Decides-eqb y x).0 e)), (λ e. (Decides-eqb y x).1 (sym e)))) range places are.all (IsDistinct-from_AllPairs Decides-eqb range apart))

  -- where a place stands
  pub where_is : (place : ℕ) → place < length paths → (k : ℕ) × (k < length places) × (get_or places k 0 ≡ place)
  where_is place h =
      let in_range : Contains (range_with_len 0 (length paths)) place = (place, omega (arith, length-range_with_len 0 (length paths)), get_or-range_with_len 0 (length paths) place place h ∙ zero-add place) in
      let there : Contains places place = Contains-permutation (range_with_len 0 (length paths)) places place are.all in_range in
      (there.0, there.1, get_or_default places there.0 0 place there.1 ∙ there.2)

  -- where a path comes again, so it does next to itself
  next_to_it : (p q : ℕ) → p < q → q < length places → path p ≡ path q → path (q - 1) ≡ path q
  next_to_it p q less within same =
      let order_at : ℕ → Ordering = λ k. slice_cmp nat_cmp (path k) (path q) in
      let rising = searchable_from_sorted nat_list_cmp_total (path_at paths) places (path q) by_path in
      let low : ordering_index (order_at p) ≡ 1 = ap ordering_index (tied_path (path p) (path q) same) in
      let high : ordering_index (order_at q) ≡ 1 = ap ordering_index (tied_path (path q) (path q) refl) in
      let up : ordering_index (order_at p) ≤ ordering_index (order_at (q - 1)) = rising p (q - 1) 0 (omega arith) (omega arith) in
      let down : ordering_index (order_at (q - 1)) ≤ ordering_index (order_at q) = rising (q - 1) q 0 (omega arith) within in
      same_path (path (q - 1)) (path q) (middle_is (order_at (q - 1)) (omega (arith, low, up)) (omega (arith, high, down)))

  module _ (turn count : ℕ) (last : length places ≤ turn) (is : IsLeast paths places turn count) where
    no_pair : (i j : ℕ) → i < j → j < count → path_at paths i ≢ path_at paths j
    no_pair i j less short same =
        let p = where_is i (omega (arith, is.within)) in
        let q = where_is j (omega (arith, is.within)) in
        let tied : path p.0 ≡ path q.0 = ap (path_at paths) p.2 ∙ same ∙ sym (ap (path_at paths) q.2) in
        ⊎_elim
        (λ (up : p.0 < q.0).
        let next : path (q.0 - 1) ≡ path (q.0 - 1 + 1) = next_to_it p.0 q.0 up q.1 tied ∙ ap path (omega arith) in
        let high : count ≤ get_or places (q.0 - 1 + 1) 0 = is.least (q.0 - 1) (let w = q.1 in omega arith) next in
        let at : get_or places (q.0 - 1 + 1) 0 ≡ j = ap (λ k. get_or places k 0) (omega arith) ∙ q.2 in
        absurd (omega arith))
        (λ (down : q.0 ≤ p.0).
        let far = sorted_far (is_before paths) (place_order paths) places are.ascending q.0 p.0 0 down p.1 in
        let yes = tied_before paths i j same less in
        let no : is_before paths i j ≡ false = (λ k. is_before paths (sym p.2 k) (sym q.2 k)) ∙ far in
        true≢false (sym yes ∙ no))
        (cases_lt p.0 q.0)

    earlier : count < length paths → (i : ℕ) × (i < count) × (path_at paths i ≡ path_at paths count)
    earlier less =
        let found = is.found less in
        let k = found.0 in
        let pair = found.1 in
        let i = get_or places k 0 in
        let there : path_at paths i ≡ path_at paths count = pair.same ∙ ap (path_at paths) (sym pair.at) in
        let apart : i ≡ get_or places (k + 1) 0 → ⊥ = all_differ k (k + 1) 0 (omega arith) pair.within in
        ⊎_elim
        (λ (before : i < count). (i, before, there))
        (λ (behind : count ≤ i).
        let other : count ≡ i → ⊥ = λ e. apart (sym e ∙ pair.at) in
        let yes = tied_before paths count i (sym there) (omega arith) in
        let no : is_before paths count i ≡ false = (λ m. is_before paths (pair.at m) i) ∙ are.ascending k 0 (omega arith) pair.within in
        absurd (true≢false (sym yes ∙ no)))
        (cases_lt i count)

    pub first_distinct : AreFirstDistinct paths count
    first_distinct =
        record {
          within = is.within;
          distinct = λ i j d less short e.
              (let long : length (take count paths) ≡ count = length-take-le count paths is.within in
              let low : j < count = omega arith in
              let at_i = get_or-take count paths i d (omega arith) in
              let at_j = get_or-take count paths j d low in
              no_pair i j less low (get_or_default paths i [] d (omega arith) ∙ sym at_i ∙ e ∙ at_j ∙ get_or_default paths j d [] (omega arith)));
          repeated = earlier;
        }
