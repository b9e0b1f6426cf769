-- Names with their places, sorted.
use Rattle.std.proofs.Common.{◌≡◌, ℕ, zero, suc, ◌+◌, ◌<◌, false, List, [], ◌∷◌, ◌++◌, length, map, get_or, refl, sym, ◌∙◌, ap, arith}
use Rattle.std.specs.Borrow.{Bor}
use Rattle.std.specs.List.{All, range_with_len}
use Rattle.std.specs.List.Sorted.{IsPermutation, IsSorted}
use Rattle.std.specs.Cmp.Lexicographic.{slice_cmp}
use Rattle.std.specs.declared.cmp.Ordering.{Ordering}
use Rattle.std.specs.declared.cmp.Ordering.TheVariants.{Less, Equal, Greater}
use Rattle.std.specs.Ordering.{nat_cmp, ordering_then, is_lt}
use Rattle.std.proofs.lemmas.List.{map-append, length-map, get_or-map}
use Rattle.std.proofs.lemmas.List.Elements.{All-from_get_or}
use Rattle.std.proofs.lemmas.List.FromFn.{get_or-map-range_with_len, get_or-range_with_len, length-map-range_with_len, length-range_with_len, map-range_with_len_more}
use Rattle.std.proofs.lemmas.List.Sorted.{IsPermutation-map, All-permutation}
use Rattle.hosts_join.specs.Accounts.{Account}
use Rattle.hosts_join.specs.Order.{name_at, AreInByteOrder}
use Rattle.hosts_join.specs.Views.{placed}

abbrev Named : Type 0
Named = Bor (List ℕ) × ℕ

-- the name at a place, with the place
abbrev pub with_place : List Account → ℕ → List ℕ × ℕ
with_place names i = (name_at names i, i)

-- one name more
pub one-more-named : (names : List Account) (k : ℕ) (found found' : List Named) (p : Named) → map placed found ≡ map (with_place names) (range_with_len 0 k) → found' ≡ found ++ p ∷ [] → placed p ≡ with_place names k
    → map placed found' ≡ map (with_place names) (range_with_len 0 (k + 1))
one-more-named names k found found' p before after is =
    ap (map placed) after ∙ map-append placed found (p ∷ []) ∙ ap (λ t. t ++ placed p ∷ []) before ∙ ap (λ q. map (with_place names) (range_with_len 0 k) ++ q ∷ []) is
    ∙ sym (map-range_with_len_more (with_place names) 0 k k (omega arith))

same-places : (qs : List (List ℕ × ℕ)) (n a : ℕ) (names : List Account) → qs ≡ map (with_place names) (range_with_len a n) → map (λ (q : List ℕ × ℕ). q.1) qs ≡ range_with_len a n
same-places qs n a names e = ap (map (λ (q : List ℕ × ℕ). q.1)) e ∙ whole n a
  where
    whole : (n a : ℕ) → map (λ (q : List ℕ × ℕ). q.1) (map (with_place names) (range_with_len a n)) ≡ range_with_len a n
    whole zero a = refl
    whole (suc n) a = ap (λ t. a ∷ t) (whole n (a + 1))

outer : (xs : List Named) → map (λ (q : List ℕ × ℕ). q.1) (map placed xs) ≡ map (λ (p : Named). p.1) xs
outer [] = refl
outer (x ∷ xs) = ap (λ t. x.1 ∷ t) (outer xs)

names-first : (xs : List Named) → map (λ (q : List ℕ × ℕ). q.0) (map placed xs) ≡ map (λ (p : Named). p.0.now) xs
names-first [] = refl
names-first (x ∷ xs) = ap (λ t. x.0.now ∷ t) (names-first xs)

-- each has the name of its place
abbrev HasOwnName : List Account → List ℕ × ℕ → Type 0
HasOwnName names q = q.0 ≡ name_at names q.1

own-names : (names : List Account) (n : ℕ) → All (HasOwnName names) (map (with_place names) (range_with_len 0 n))
own-names names n = All-from_get_or (HasOwnName names) (map (with_place names) (range_with_len 0 n)) ([], 0) (λ i low.
    let at = get_or-map-range_with_len (with_place names) 0 n i i ([], 0) (omega (arith, low, length-map-range_with_len (with_place names) 0 n)) (omega arith) in
    rw at refl)

names-of-places : (names : List Account) (qs : List (List ℕ × ℕ)) → All (HasOwnName names) qs → map (name_at names) (map (λ (q : List ℕ × ℕ). q.1) qs) ≡ map (λ (q : List ℕ × ℕ). q.0) qs
names-of-places names [] own = refl
names-of-places names (q ∷ qs) own = ap (λ n. n ∷ map (name_at names) (map (λ (q : List ℕ × ℕ). q.1) qs)) (sym (own 0 q (omega arith))) ∙ ap (λ t. q.0 ∷ t) (names-of-places names qs (λ i d low. own (suc i) d (omega (arith, low))))

-- what a sort of names with their places says of the names
not-less : (o p : Ordering) → is_lt (ordering_then o p) ≡ false → is_lt o ≡ false
not-less Less p e = e
not-less Equal p e = refl
not-less Greater p e = refl

names-ascend : (xs : List Named) → IsSorted (λ (p q : Named). ordering_then (slice_cmp nat_cmp p.0.now q.0.now) (nat_cmp p.1 q.1)) xs → IsSorted (slice_cmp nat_cmp) (map (λ (p : Named). p.0.now) xs)
names-ascend xs s = λ k d low high.
    let d' : Named = (record { ref_ptr = (0, 0); now = [] }, 0) in
    let high' : k + 1 < length xs = omega (arith, length-map xs (λ (p : Named). p.0.now)) in
    let here : k < length xs = omega arith in
    rw (get_or-map (λ (p : Named). p.0.now) xs (k + 1) d' d high', get_or-map (λ (p : Named). p.0.now) xs k d' d here) (not-less (slice_cmp nat_cmp (get_or xs (k + 1) d').0.now (get_or xs k d').0.now) (nat_cmp (get_or xs (k + 1) d').1 (get_or xs k d').1) (s k d' low high'))

pub ordered : (names : List Account) (found sorted : List Named) (order : List ℕ) → map placed found ≡ map (with_place names) (range_with_len 0 (length names)) → IsPermutation found sorted
    → IsSorted (λ (p q : Named). ordering_then (slice_cmp nat_cmp p.0.now q.0.now) (nat_cmp p.1 q.1)) sorted → order ≡ map (λ (p : Named). p.1) sorted → AreInByteOrder names order
ordered names found sorted order all perm ascend is =
    let perm' = IsPermutation-map placed found sorted perm in
    let places = IsPermutation-map (λ (q : List ℕ × ℕ). q.1) (map placed found) (map placed sorted) perm' in
    let places' = rw (same-places (map placed found) (length names) 0 names all, outer sorted, ← is) at places in
    let own = All-permutation (HasOwnName names) (map placed found) (map placed sorted) perm' (rw all (own-names names (length names))) in
    let same : map (name_at names) order ≡ map (λ (p : Named). p.0.now) sorted = ap (map (name_at names)) (is ∙ sym (outer sorted)) ∙ names-of-places names (map placed sorted) own ∙ names-first sorted in
    record { each_once = places'; ascending = rw same (names-ascend sorted ascend) }

below : (n : ℕ) → All (λ i. i < n) (range_with_len 0 n)
below n = All-from_get_or (λ i. i < n) (range_with_len 0 n) 0 (λ i low. rw (get_or-range_with_len 0 n i 0 (omega (arith, low, length-range_with_len 0 n))) (omega (arith, low, length-range_with_len 0 n)))

-- the places are those of names
pub all-within : (names : List Account) (order : List ℕ) → AreInByteOrder names order → All (λ i. i < length names) order
all-within names order is = All-permutation (λ i. i < length names) (range_with_len 0 (length names)) order is.each_once (below (length names))
