-- The potentials add up to what the completed mapping weighs.
use Rattle.std.proofs.Common.{◌≡◌, ℕ, suc, ◌+◌, ◌<◌, ◌≤◌, true, false, cond, eqb, ltb, List, [], ◌∷◌, length, get_or, sum, sum_by, Some, unwrap_or, refl, sym, ap, ◌∙◌, ⊎_elim, arith}
use Rattle.std.specs.BTreeMap as btree
use Rattle.std.specs.Map.{lookup, keys_of}
use Rattle.std.specs.Ordering.{nat_cmp, is_eq}
use Rattle.std.specs.List.{IsDistinct, AllByRecursion, list_any, slice_get}
use Rattle.std.specs.List.Sorted.{IsStrictlySortedBy}
use Rattle.std.proofs.lemmas.List.Sums.{sum_by-cons}
use Rattle.std.proofs.lemmas.Map.Keys.{IsDistinct-head, IsDistinct-tail, IsDistinct-from_apart, below_from_sorted}
use Rattle.std.proofs.lemmas.Bool.{eqb-true, eq-eqb, ne_eqb, cases_Bool, cases_eq, cases_lt, or_cases, both_ways, lt-ltb, le-ltb}
use Rattle.std.proofs.lemmas.List.{get_or-map, get_or_default, length-map}
use Rattle.candidates.specs.declared.Candidate.{Candidate}
use Rattle.candidates.specs.Rows.{weight_in, row_at}
use Rattle.ownership.specs.Mappings.{AreDistinct}
use Rattle.ownership.specs.Potentials.{value_at, AscendsByNumber}
use Rattle.assignment.proofs.Sums.{over, listed_weight}

-- ---- sums over a mapping

pub over_same : (f g : ℕ → ℕ) (vs : List ℕ) → ((v : ℕ) → f v ≡ g v) → over f vs ≡ over g vs
over_same f g [] h = refl
over_same f g (v ∷ vs) h = let rest = over_same f g vs h in omega (arith, h v, rest)

-- at numbers that differ from k, the value at k is not read
over_apart : (f : ℕ → ℕ) (k x : ℕ) (vs : List ℕ) → AllByRecursion (λ v. eqb k v ≡ false) vs → over (λ v. cond (eqb k v) x (f v)) vs ≡ over f vs
over_apart f k x [] h = refl
over_apart f k x (v ∷ vs) h = let ih = over_apart f k x vs h.1 in rw (h.0) (ap (λ n. f v + n) ih)

-- a number that is among distinct ones is read exactly once
over_exact : (f : ℕ → ℕ) (k x : ℕ) (vs : List ℕ) → IsDistinct eqb vs → list_any (eqb k) vs ≡ true → f k ≡ 0 → over (λ v. cond (eqb k v) x (f v)) vs ≡ x + over f vs
over_exact f k x [] d h z = absurd (both_ways false refl h)
over_exact f k x (v ∷ vs) d h z =
    ⊎_elim
    (λ (e : eqb k v ≡ true).
    let same : k ≡ v = eqb-true k v e in
    let far : AllByRecursion (λ w. eqb k w ≡ false) vs = rw same (IsDistinct-head eqb v vs d) in
    let a = over_apart f k x vs far in
    let b : f v ≡ 0 = ap f (sym same) ∙ z in
    rw e (omega (arith, a, b)))
    (λ (e : eqb k v ≡ false).
    let there : list_any (eqb k) vs ≡ true = ⊎_elim (λ (a : eqb k v ≡ true). absurd (both_ways (eqb k v) e a)) (λ (a : list_any (eqb k) vs ≡ true). a) (or_cases (eqb k v) (list_any (eqb k) vs) h) in
    let ih = over_exact f k x vs (IsDistinct-tail eqb v vs d) there z in
    rw e (omega (arith, ih)))
    (cases_Bool (eqb k v))

value_at_apart : (es : List (ℕ × ℕ)) (k : ℕ) → AllByRecursion (λ q. eqb k q ≡ false) (keys_of es) → value_at es k ≡ 0
value_at_apart [] k h = refl
value_at_apart (e ∷ es) k h =
    let ne : eqb e.0 k ≡ false = ne_eqb e.0 k (λ q. both_ways (eqb k e.0) h.0 (eq-eqb k e.0 (sym q))) in
    rw ne (value_at_apart es k h.1)

over_nothing : (vs : List ℕ) → over (value_at []) vs ≡ 0
over_nothing [] = refl
over_nothing (v ∷ vs) = let ih = over_nothing vs in omega (arith, ih)

-- where each number of z is in the mapping, all of z is read
pub over_all : (z : List (ℕ × ℕ)) (vs : List ℕ) → IsDistinct eqb vs → IsDistinct eqb (keys_of z) → ((i : ℕ) (e : ℕ × ℕ) → slice_get z i ≡ Some e → list_any (eqb e.0) vs ≡ true) → over (value_at z) vs ≡ sum_by (λ e. e.1) z
over_all [] vs d k h = over_nothing vs
over_all (e ∷ es) vs d k h =
    let once = over_exact (value_at es) e.0 e.1 vs d (h 0 e refl) (value_at_apart es e.0 (IsDistinct-head eqb e.0 (keys_of es) k)) in
    let rest = over_all es vs d (IsDistinct-tail eqb e.0 (keys_of es) k) (λ i x q. h (suc i) x q) in
    rw (sum_by-cons (λ (p : ℕ × ℕ). p.1) e es) (omega (arith, once, rest))

-- where each name's number weighs what covers it, the sums agree
pub weighs_all : (rows : List (List Candidate)) (y vs : List ℕ) (f : ℕ → ℕ) → length y ≡ length rows → length vs ≡ length rows → ((n : ℕ) → n < length rows → weight_in (row_at rows n) (get_or vs n 0) ≡ get_or y n 0 + f (get_or vs n 0)) → listed_weight rows vs ≡ sum y + over f vs
weighs_all [] [] [] f a b h = refl
weighs_all [] [] (v ∷ vs) f a b h = absurd (omega (arith, b))
weighs_all [] (x ∷ y) vs f a b h = absurd (omega (arith, a))
weighs_all (row ∷ rows) [] vs f a b h = absurd (omega (arith, a))
weighs_all (row ∷ rows) (p ∷ y) [] f a b h = absurd (omega (arith, b))
weighs_all (row ∷ rows) (p ∷ y) (v ∷ vs) f a b h =
    let first : weight_in row v ≡ p + f v = h 0 (omega arith) in
    let rest : listed_weight rows vs ≡ sum y + over f vs = weighs_all rows y vs f (omega (arith, a)) (omega (arith, b)) (λ n l. h (suc n) (omega (arith, l))) in
    rw (sum_by-cons (λ (x : ℕ). x) p y) (omega (arith, first, rest))

-- ---- the entries of a map

is_eq_eqb : (a b : ℕ) → is_eq (nat_cmp a b) ≡ eqb b a
is_eq_eqb a b =
    ⊎_elim
    (λ (e : a ≡ b).
    let p : ltb a b ≡ false = le-ltb a b (omega arith) in
    let q : eqb a b ≡ true = eq-eqb a b e in
    let r : eqb b a ≡ true = eq-eqb b a (sym e) in
    rw (p, q, r) refl)
    (λ (ne : a ≡ b → ⊥).
    let q : eqb a b ≡ false = ne_eqb a b ne in
    let r : eqb b a ≡ false = ne_eqb b a (λ e. ne (sym e)) in
    ⊎_elim
    (λ (l : a < b). let p : ltb a b ≡ true = lt-ltb a b l in rw (p, r) refl)
    (λ (g : b ≤ a). let p : ltb a b ≡ false = le-ltb a b g in rw (p, q, r) refl)
    (cases_lt a b))
    (cases_eq a b)

-- what a look-up finds is the value in the list
pub value_at_lookup : (es : List (ℕ × ℕ)) (v : ℕ) → value_at es v ≡ unwrap_or (lookup (btree.is_at (nat_cmp v)) es) 0
value_at_lookup [] v = refl
value_at_lookup (e ∷ es) v =
    ⊎_elim
    (λ (q : eqb e.0 v ≡ true). let r : is_eq (nat_cmp v e.0) ≡ true = is_eq_eqb v e.0 ∙ q in rw (q, r) refl)
    (λ (q : eqb e.0 v ≡ false). let r : is_eq (nat_cmp v e.0) ≡ false = is_eq_eqb v e.0 ∙ q in rw (q, r) (value_at_lookup es v))
    (cases_Bool (eqb e.0 v))

-- keys in order ascend
pub ascends_from_ordered : (es : List (ℕ × ℕ)) → IsStrictlySortedBy nat_cmp (keys_of es) → AscendsByNumber es
ascends_from_ordered es h i j d l m =
    let long = length-map es (λ (e : ℕ × ℕ). e.0) in
    let k = below_from_sorted (keys_of es) i j 0 h l (omega (arith, m, long)) in
    let ea : get_or (keys_of es) i 0 ≡ (get_or es i d).0 = get_or-map (λ (e : ℕ × ℕ). e.0) es i d 0 (omega (arith, l, m)) in
    let eb : get_or (keys_of es) j 0 ≡ (get_or es j d).0 = get_or-map (λ (e : ℕ × ℕ). e.0) es j d 0 m in
    omega (arith, k, ea, eb)

-- the two ways to say that numbers are distinct
pub distinct_list : (m : List ℕ) → AreDistinct m → IsDistinct eqb m
distinct_list m h =
    IsDistinct-from_apart eqb m (λ i j d l k.
    let first = get_or_default m i d 0 (omega (arith, l, k)) in
    let second = get_or_default m j d 0 k in
    ne_eqb (get_or m i d) (get_or m j d) (λ (e : get_or m i d ≡ get_or m j d). absurd (omega (arith, l, h i j (omega (arith, l, k)) k (sym first ∙ e ∙ second)))))

-- keys in order are distinct
pub distinct_from_ordered : (ks : List ℕ) → IsStrictlySortedBy nat_cmp ks → IsDistinct eqb ks
distinct_from_ordered ks h =
    IsDistinct-from_apart eqb ks (λ i j d l m.
    let k = below_from_sorted ks i j d h l m in
    ne_eqb (get_or ks i d) (get_or ks j d) (λ (e : get_or ks i d ≡ get_or ks j d). absurd (omega (arith, k, e))))
