-- A path found by bisection among places in the byte order of their paths.
use Rattle.std.proofs.Common.{◌≡◌, ℕ, ◌<◌, ◌≤◌, ◌+◌, Bool, true, false, nat_lt, cond, List, [], Some, None, length, get_or, refl, sym, ◌∙◌, ap, arith, ⊎_elim}
use Rattle.std.specs.declared.cmp.Ordering.{Ordering}
use Rattle.std.specs.declared.cmp.Ordering.TheVariants.{Less, Equal, Greater}
use Rattle.std.specs.List.{position, position_or_len}
use Rattle.std.specs.Ordering.{nat_cmp, ordering_index, is_eq}
use Rattle.std.specs.Cmp.Lexicographic.{slice_cmp}
use Rattle.std.specs.Str.{bytes_eq}
use Rattle.std.proofs.lemmas.Bool.{cases_lt, false_from_ne_true}
use Rattle.std.proofs.lemmas.Bool.Decides.{nat_tests}
use Rattle.std.proofs.lemmas.Cmp.{nat_list_cmp_total}
use Rattle.std.proofs.lemmas.List.Sorted.{searchable_from_sorted}
use Rattle.std.proofs.lemmas.List.Sums.{position_or_len_is}
use Rattle.std.proofs.lemmas.Map.Text.{is_eq-slice_cmp}
use Rattle.std.proofs.lemmas.Slice.Eq.{bytes_eq-Decides}
use Rattle.reown_plan.specs.Places.{path_at, AreDistinctPaths, ArePlaces}
use Rattle.reown_plan.proofs.Sorting.{same_path, by_path, all_within, where_is}

-- ---- the first that passes

position_at : {X : Type 0} (p : X → Bool) (xs : List X) (i : ℕ) (d : X) → i < length xs → ((k : ℕ) → k < i → p (get_or xs k d) ≡ false) → p (get_or xs i d) ≡ true → position p xs ≡ Some i
position_at p xs i d below before here =
    let first : position_or_len p xs ≡ i = position_or_len_is p xs i d (omega arith) before (λ _. here) in
    let less : nat_lt i (length xs) ≡ true = grind (arith, nat_tests) in
    ap (λ n. cond (nat_lt n (length xs)) (Some n) None) first ∙ ap (λ b. cond b (Some i) None) less

position_nowhere : {X : Type 0} (p : X → Bool) (xs : List X) (d : X) → ((k : ℕ) → k < length xs → p (get_or xs k d) ≡ false) → position p xs ≡ None
position_nowhere p xs d none =
    let last : position_or_len p xs ≡ length xs = position_or_len_is p xs (length xs) d (omega arith) none (λ h. absurd (omega arith)) in
    let less : nat_lt (length xs) (length xs) ≡ false = grind (arith, nat_tests) in
    ap (λ n. cond (nat_lt n (length xs)) (Some n) None) last ∙ ap (λ b. cond b (Some (length xs)) None) less

-- ---- bisection

lowest : (o : Ordering) → ordering_index o ≤ 0 → o ≡ Less
lowest Less h = refl
lowest Equal h = absurd (omega arith)
lowest Greater h = absurd (omega arith)

greatest : (o : Ordering) → 2 ≤ ordering_index o → o ≡ Greater
greatest Less h = absurd (omega arith)
greatest Equal h = absurd (omega arith)
greatest Greater h = refl

-- a path that comes before another or after it is not that one
other_path : (path target : List ℕ) (o : Ordering) → slice_cmp nat_cmp path target ≡ o → is_eq o ≡ false → bytes_eq target path ≡ false
other_path path target o is other =
    false_from_ne_true (bytes_eq target path) (λ e.
    let same : path ≡ target = sym ((bytes_eq-Decides target path).0 e) in
    let tied : is_eq o ≡ true = sym (ap is_eq is) ∙ is_eq-slice_cmp path target ∙ (bytes_eq-Decides path target).1 same in
    absurd (cc))

module _ (paths : List (List ℕ)) (target : List ℕ) (distinct : AreDistinctPaths paths) where
  -- a place of the path is the first
  pub place_is : (place : ℕ) → place < length paths → path_at paths place ≡ target → position (bytes_eq target) paths ≡ Some place
  place_is place below same =
      position_at (bytes_eq target) paths place [] below
      (λ k less. false_from_ne_true (bytes_eq target (path_at paths k)) (λ e. distinct k place [] less below (sym ((bytes_eq-Decides target (path_at paths k)).0 e) ∙ sym same)))
      ((bytes_eq-Decides target (path_at paths place)).1 (sym same))

module _ (paths : List (List ℕ)) (places : List ℕ) (target : List ℕ) (are : ArePlaces paths places) where
  -- how the path of the place here compares with the target
  abbrev pub order_at : ℕ → Ordering
  order_at k = slice_cmp nat_cmp (path_at paths (get_or places k 0)) target

  rising : (i j : ℕ) → i ≤ j → j < length places → ordering_index (order_at i) ≤ ordering_index (order_at j)
  rising i j up within = searchable_from_sorted nat_list_cmp_total (path_at paths) places target (by_path paths places are) i j 0 up within

  pub before_less : (m : ℕ) → m < length places → order_at m ≡ Less → (k : ℕ) → k < m + 1 → order_at k ≡ Less
  before_less m within is k up =
      let rank : ordering_index (order_at m) ≡ 0 = ap ordering_index is in
      lowest (order_at k) (omega (arith, rising k m (omega arith) within, rank))

  pub behind_greater : (m : ℕ) → m < length places → order_at m ≡ Greater → (k : ℕ) → m ≤ k → k < length places → order_at k ≡ Greater
  behind_greater m within is k up below =
      let rank : ordering_index (order_at m) ≡ 2 = ap ordering_index is in
      greatest (order_at k) (omega (arith, rising m k up below, rank))

  pub place_found : AreDistinctPaths paths → (m : ℕ) → m < length places → order_at m ≡ Equal → position (bytes_eq target) paths ≡ Some (get_or places m 0)
  place_found distinct m within is =
      let place = get_or places m 0 in
      place_is paths target distinct place (all_within paths places are m 0 within) (same_path (path_at paths place) target is)

  pub place_absent : (m : ℕ) → ((k : ℕ) → k < m → order_at k ≡ Less) → ((k : ℕ) → m ≤ k → k < length places → order_at k ≡ Greater) → position (bytes_eq target) paths ≡ None
  place_absent m before behind =
      position_nowhere (bytes_eq target) paths [] (λ place h.
      let there = where_is paths places are place h in
      let order : order_at there.0 ≡ slice_cmp nat_cmp (path_at paths place) target = ap (λ q. slice_cmp nat_cmp (path_at paths q) target) there.2 in
      ⊎_elim
      (λ (low : there.0 < m). other_path (path_at paths place) target Less (sym order ∙ before there.0 low) refl)
      (λ (high : m ≤ there.0). other_path (path_at paths place) target Greater (sym order ∙ behind there.0 high there.1) refl)
      (cases_lt there.0 m))
