-- Paths in one buffer, and the places of paths in their byte order.
use Rattle.std.proofs.Common.{◌≡◌, ◌≢◌, ℕ, zero, suc, ◌<◌, ◌≤◌, ◌+◌, ◌-◌, true, false, List, [], ◌∷◌, ◌++◌, Some, None, All, AllPairs, Contains, map, length, take, drop, get_or, refl, sym, ◌∙◌, ap, subst, arith, zero-add, add-zero, add-one, ⊎_elim}
use Rattle.std.specs.declared.cmp.Ordering.{Ordering}
use Rattle.std.specs.declared.cmp.Ordering.TheVariants.{Less, Equal, Greater}
use Rattle.std.specs.List.{position, range_with_len}
use Rattle.std.specs.Ordering.{nat_cmp, ordering_index, is_eq}
use Rattle.std.specs.Cmp.Lexicographic.{slice_cmp}
use Rattle.std.specs.Str.{bytes_eq}
use Rattle.std.proofs.lemmas.Bool.{cases_lt, false_from_ne_true}
use Rattle.std.proofs.lemmas.Cmp.{nat_list_cmp_total}
use Rattle.std.proofs.lemmas.List.{get_or_default, get_or-map, length-map, map-append, take-append-le, drop-append-le, length-append, length-drop, take_all}
use Rattle.std.proofs.Math.Seq.{drop-append_seam}
use Rattle.std.proofs.lemmas.List.FromFn.{length-range_with_len, get_or-range_with_len}
use Rattle.std.proofs.lemmas.List.Sorted.{searchable_from_sorted, All-permutation, Contains-permutation}
use Rattle.std.proofs.lemmas.Map.Text.{is_eq-slice_cmp}
use Rattle.std.proofs.lemmas.Slice.Eq.{bytes_eq-Decides}
use Rattle.reown_runner.proofs.Lists.{position_at, position_nowhere}
use Rattle.reown_runner.specs.declared.paths.Span.{Span}
use Rattle.reown_plan.specs.Places.{AreDistinctPaths, path_at}
use Rattle.reown_runner.specs.Paths.{IsSpanWithin, path_in, ArePlaces}

-- ---- one place more

pub range_more : (a n : ℕ) → range_with_len a (n + 1) ≡ range_with_len a n ++ (a + n) ∷ []
range_more a n = ap (λ k. range_with_len a k) (add-one n) ∙ by a n
  where
    by : (a n : ℕ) → range_with_len a (suc n) ≡ range_with_len a n ++ (a + n) ∷ []
    by a zero = ap (λ k. k ∷ []) (sym (add-zero a))
    by a (suc n) = ap (λ ks. a ∷ ks) (by (a + 1) n) ∙ ap (λ k. range_with_len a (suc n) ++ k ∷ []) (omega arith)

-- ---- bisection

lowest : (o : Ordering) → ordering_index o ≤ 0 → o ≡ Less
lowest Less h = refl
lowest Equal h = absurd (omega arith)
lowest Greater h = absurd (omega arith)

greatest : (o : Ordering) → 2 ≤ ordering_index o → o ≡ Greater
greatest Less h = absurd (omega arith)
greatest Equal h = absurd (omega arith)
greatest Greater h = refl

same_path : (path target : List ℕ) → slice_cmp nat_cmp path target ≡ Equal → path ≡ target
same_path path target h = (bytes_eq-Decides path target).0 (sym (is_eq-slice_cmp path target) ∙ ap is_eq h)

-- a path that comes before another or after it is not that one
other_path : (path target : List ℕ) (o : Ordering) → slice_cmp nat_cmp path target ≡ o → is_eq o ≡ false → bytes_eq target path ≡ false
other_path path target o is other =
    false_from_ne_true (bytes_eq target path) (λ e.
    let same : path ≡ target = sym ((bytes_eq-Decides target path).0 e) in
    let tied : is_eq o ≡ true = sym (ap is_eq is) ∙ is_eq-slice_cmp path target ∙ (bytes_eq-Decides path target).1 same in
    absurd (cc))

module _ (paths : List (List ℕ)) (places : List ℕ) (target : List ℕ) (are : ArePlaces paths places) where
  -- how the path of the place here compares with the target
  abbrev pub order_at : ℕ → Ordering
  order_at k = slice_cmp nat_cmp (path_at paths (get_or places k 0)) target

  rising : (i j : ℕ) → i ≤ j → j < length places → ordering_index (order_at i) ≤ ordering_index (order_at j)
  rising i j up within = searchable_from_sorted nat_list_cmp_total (path_at paths) places target are.ascending i j 0 up within

  pub before_less : (m : ℕ) → m < length places → order_at m ≡ Less → (k : ℕ) → k < m + 1 → order_at k ≡ Less
  before_less m within is k up =
      let rank : ordering_index (order_at m) ≡ 0 = ap ordering_index is in
      lowest (order_at k) (omega (arith, rising k m (omega arith) within, rank))

  pub behind_greater : (m : ℕ) → m < length places → order_at m ≡ Greater → (k : ℕ) → m ≤ k → k < length places → order_at k ≡ Greater
  behind_greater m within is k up below =
      let rank : ordering_index (order_at m) ≡ 2 = ap ordering_index is in
      greatest (order_at k) (omega (arith, rising m k up below, rank))

  all_within : All (λ place. place < length paths) places
  all_within = All-permutation (λ place. place < length paths) (range_with_len 0 (length paths)) places are.all (λ k d h.
      let within : k < length paths = omega (arith, length-range_with_len 0 (length paths)) in
      rw (get_or-range_with_len 0 (length paths) k d within) (omega arith))

  pub place_found : AreDistinctPaths paths → (m : ℕ) → m < length places → order_at m ≡ Equal → position (bytes_eq target) paths ≡ Some (get_or places m 0)
  place_found distinct m within is =
      let place = get_or places m 0 in
      let below : place < length paths = all_within m 0 within in
      let same : path_at paths place ≡ target = same_path (path_at paths place) target is in
      position_at (bytes_eq target) paths place [] below
      (λ k less. false_from_ne_true (bytes_eq target (path_at paths k)) (λ e. distinct k place [] less below (sym ((bytes_eq-Decides target (path_at paths k)).0 e) ∙ sym same)))
      ((bytes_eq-Decides target (path_at paths place)).1 (sym same))

  pub place_absent : (m : ℕ) → ((k : ℕ) → k < m → order_at k ≡ Less) → ((k : ℕ) → m ≤ k → k < length places → order_at k ≡ Greater) → position (bytes_eq target) paths ≡ None
  place_absent m before behind =
      position_nowhere (bytes_eq target) paths [] (λ place h.
      let in_range : Contains (range_with_len 0 (length paths)) place = (place, omega (arith, length-range_with_len 0 (length paths)), get_or-range_with_len 0 (length paths) place place h ∙ zero-add place) in
      let there : Contains places place = Contains-permutation (range_with_len 0 (length paths)) places place are.all in_range in
      let here : get_or places there.0 0 ≡ place = get_or_default places there.0 0 place there.1 ∙ there.2 in
      let order : order_at there.0 ≡ slice_cmp nat_cmp (path_at paths place) target = ap (λ q. slice_cmp nat_cmp (path_at paths q) target) here in
      ⊎_elim
      (λ (low : there.0 < m). other_path (path_at paths place) target Less (sym order ∙ before there.0 low) refl)
      (λ (high : m ≤ there.0). other_path (path_at paths place) target Greater (sym order ∙ behind there.0 high there.1) refl)
      (cases_lt there.0 m))

-- ---- paths that differ

pub distinct-map : {X : Type 0} (f : X → List ℕ) (nobody : X) (xs : List X) (paths : List (List ℕ)) → AllPairs (λ a b. f a ≢ f b) xs → paths ≡ map f xs → AreDistinctPaths paths
distinct-map f nobody xs paths apart is = subst AreDistinctPaths (sym is) (λ i j d low high.
    let within : j < length xs = omega (arith, length-map xs f) in
    let one : get_or (map f xs) i d ≡ f (get_or xs i nobody) = get_or-map f xs i nobody d (omega arith) in
    let other : get_or (map f xs) j d ≡ f (get_or xs j nobody) = get_or-map f xs j nobody d within in
    λ e. apart i j nobody low within (sym one ∙ e ∙ other))

-- ---- one more path in the buffer

module _ (bytes more : List ℕ) where
  -- the paths that are there stay
  path_in-append : (s : Span) → IsSpanWithin (length bytes) s → path_in (bytes ++ more) s ≡ path_in bytes s
  path_in-append s at =
      let front : s.start ≤ length bytes = omega (arith, at.rising, at.within) in
      let room : s.end - s.start ≤ length (drop s.start bytes) = omega (arith, length-drop s.start bytes, at.within) in
      ap (take (s.end - s.start)) (drop-append-le s.start bytes more front) ∙ take-append-le (s.end - s.start) (drop s.start bytes) more room

  paths_in-append : (spans : List Span) → All (IsSpanWithin (length bytes)) spans → map (path_in (bytes ++ more)) spans ≡ map (path_in bytes) spans
  paths_in-append [] all = refl
  paths_in-append (s ∷ ss) all =
      λ i. path_in-append s (all 0 s (omega arith)) i ∷ paths_in-append ss (λ k d h. all (suc k) d (omega arith)) i

  -- and the new one stands after them
  path_in-new : (s : Span) → s.start ≡ length bytes → s.end ≡ length (bytes ++ more) → path_in (bytes ++ more) s ≡ more
  path_in-new s start end =
      let room : s.end - s.start ≡ length more = omega (arith, length-append bytes more) in
      (λ i. take (room i) (drop (start i) (bytes ++ more))) ∙ ap (take (length more)) (drop-append_seam bytes more) ∙ take_all (length more) more (omega arith)

pub paths_in-push : (bytes more new_bytes : List ℕ) (spans new_spans : List Span) (s : Span) → All (IsSpanWithin (length bytes)) spans → new_bytes ≡ bytes ++ more → new_spans ≡ spans ++ s ∷ [] → s.start ≡ length bytes → s.end ≡ length new_bytes
    → map (path_in new_bytes) new_spans ≡ map (path_in bytes) spans ++ more ∷ []
paths_in-push bytes more new_bytes spans new_spans s all is_bytes is_spans start end =
    (λ i. map (path_in (is_bytes i)) (is_spans i)) ∙ map-append (path_in (bytes ++ more)) spans (s ∷ [])
    ∙ (λ i. paths_in-append bytes more spans all i ++ path_in-new bytes more s start (end ∙ ap length is_bytes) i ∷ [])

-- bytes after them alone change no path
pub paths_in-kept : (bytes more new_bytes : List ℕ) (spans new_spans : List Span) → All (IsSpanWithin (length bytes)) spans → new_bytes ≡ bytes ++ more → new_spans ≡ spans → map (path_in new_bytes) new_spans ≡ map (path_in bytes) spans
paths_in-kept bytes more new_bytes spans new_spans all is_bytes is_spans =
    (λ i. map (path_in (is_bytes i)) (is_spans i)) ∙ paths_in-append bytes more spans all
