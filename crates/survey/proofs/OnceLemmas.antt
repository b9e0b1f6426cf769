-- Numbers, each once: one more of them, which they are, and that none stands twice.
use Rattle.std.proofs.Common.{◌≡◌, ◌≢◌, ◌⊎◌, ℕ, ◌<◌, Bool, true, false, not, cond, List, [], ◌∷◌, ◌++◌, length, map, get_or, refl, sym, ap, ◌∙◌, nat_eq, inl, inr}
use Rattle.std.specs.Prelude.{◌&&◌, ◌||◌, ◌↔◌, filter, if◌then◌else◌, Any, Contains}
use Rattle.std.specs.Cmp.{nat_eq_equiv}
use Rattle.std.specs.List.{list_any, IsDistinct}
use Rattle.std.proofs.lemmas.Bool.{and_from, and_parts, cases_order, cond_both, eq-eqb, eqb-true, not-true, true≢false}
use Rattle.std.proofs.lemmas.Bool.Decides.{eqb_tells}
use Rattle.std.proofs.lemmas.List.{append-nil}
use Rattle.std.proofs.lemmas.List.Elements.{All-filter, All-from_recursion, All-weaker, filter-append, filter_passes, recursion_from_All}
use Rattle.std.proofs.lemmas.List.Folds.{Any-from_list_any, list_any-from_Any}
use Rattle.std.proofs.lemmas.Map.Keys.{IsDistinct-cons, IsDistinct-head, IsDistinct-tail, apart_from_distinct}
use Rattle.std.proofs.lemmas.Map.Views.{any-filter_same, Contains-from_any, list_any-from_Contains}
use Rattle.accounts.specs.Laws.{AreDistinct}
use Rattle.accounts.proofs.ListLemmas.{list_any-map}
use Rattle.survey.specs.Unowned.{each_once}

-- those that are not this one
abbrev others : ℕ → List ℕ → List ℕ
others number numbers = filter (λ other. not (nat_eq number other)) numbers

-- whether the number is among them
abbrev has : List ℕ → ℕ → Bool
has numbers number = list_any (nat_eq number) numbers

has-filter : (test : ℕ → Bool) (y : ℕ) (numbers : List ℕ) → has (filter test numbers) y ≡ (test y && has numbers y)
has-filter test y numbers = any-filter_same (nat_eq y) test (test y) (λ k h. ap test (sym (eqb-true y k h))) numbers

-- ---- one number more

same_step : (x y : ℕ) (once : List ℕ) (b : Bool) → nat_eq x y ≡ true → x ∷ others x (if b then once else once ++ y ∷ []) ≡ x ∷ others x once
same_step x y once true e = refl
same_step x y once false e =
    ap (λ (t : List ℕ). x ∷ t) (filter-append (λ other. not (nat_eq x other)) once (y ∷ []) ∙ ap (λ (b : Bool). others x once ++ cond (not b) (y ∷ []) []) e ∙ append-nil (others x once))

other_step : (x y : ℕ) (once : List ℕ) (b : Bool) → nat_eq x y ≡ false → x ∷ others x (if b then once else once ++ y ∷ []) ≡ (if b then x ∷ others x once else (x ∷ others x once) ++ y ∷ [])
other_step x y once true e = refl
other_step x y once false e =
    ap (λ (t : List ℕ). x ∷ t) (filter-append (λ other. not (nat_eq x other)) once (y ∷ []) ∙ ap (λ (b : Bool). others x once ++ cond (not b) (y ∷ []) []) e)

push_step : (x y : ℕ) (once : List ℕ) → x ∷ others x (if has once y then once else once ++ y ∷ []) ≡ (if has (x ∷ others x once) y then x ∷ others x once else (x ∷ others x once) ++ y ∷ [])
push_step x y once = by (eqb_tells x y)
  where
    goal : Bool → List ℕ
    goal b = if b then x ∷ others x once else (x ∷ others x once) ++ y ∷ []

    by : ((nat_eq x y ≡ true) × (x ≡ y)) ⊎ ((nat_eq x y ≡ false) × (x ≢ y)) → x ∷ others x (if has once y then once else once ++ y ∷ []) ≡ (if has (x ∷ others x once) y then x ∷ others x once else (x ∷ others x once) ++ y ∷ [])
    by (inl p) = same_step x y once (has once y) p.0 ∙ sym (ap (λ (b : Bool). if b || has (others x once) y then x ∷ others x once else (x ∷ others x once) ++ y ∷ []) (eq-eqb y x (sym p.1)))
    by (inr p) =
        let here : has (others x once) y ≡ has once y = has-filter (λ other. not (nat_eq x other)) y once ∙ ap (λ (b : Bool). not b && has once y) p.0 in
        let apart : nat_eq y x ≡ false = differ (λ e. p.1 (sym e)) in
        other_step x y once (has once y) p.0 ∙ sym (ap (λ (b : Bool). if b || has (others x once) y then x ∷ others x once else (x ∷ others x once) ++ y ∷ []) apart ∙ ap (λ (b : Bool). if b then x ∷ others x once else (x ∷ others x once) ++ y ∷ []) here)
      where
        differ : (y ≢ x) → nat_eq y x ≡ false
        differ ne = elim (eqb_tells y x) [ inl q ↦ absurd (ne q.1) | inr q ↦ q.0 ]

pub each_once-push : (numbers : List ℕ) (y : ℕ) → each_once (numbers ++ y ∷ []) ≡ (if has (each_once numbers) y then each_once numbers else each_once numbers ++ y ∷ [])
each_once-push [] y = refl
each_once-push (x ∷ xs) y = ap (λ (t : List ℕ). x ∷ others x t) (each_once-push xs y) ∙ push_step x y (each_once xs)

-- a number that passes
pub once_more : (test : ℕ → Bool) (before : List ℕ) (number : ℕ) → test number ≡ true
    → (if has (each_once (filter test before)) number then each_once (filter test before) else each_once (filter test before) ++ number ∷ []) ≡ each_once (filter test (before ++ number ∷ []))
once_more test before number passes =
    sym (each_once-push (filter test before) number)
    ∙ ap each_once (ap (λ (b : Bool). filter test before ++ cond b (number ∷ []) []) (sym passes) ∙ sym (filter-append test before (number ∷ [])))

-- ---- which they are

absorbed : (x y : ℕ) (b : Bool) → (nat_eq y x || (not (nat_eq x y) && b)) ≡ (nat_eq y x || b)
absorbed x y b = by (eqb_tells x y)
  where
    by : ((nat_eq x y ≡ true) × (x ≡ y)) ⊎ ((nat_eq x y ≡ false) × (x ≢ y)) → (nat_eq y x || (not (nat_eq x y) && b)) ≡ (nat_eq y x || b)
    by (inl p) = rw (eq-eqb y x (sym p.1)) refl
    by (inr p) = rw p.0 refl

has-each_once : (y : ℕ) (numbers : List ℕ) → has (each_once numbers) y ≡ has numbers y
has-each_once y [] = refl
has-each_once y (x ∷ xs) =
    ap (λ (b : Bool). nat_eq y x || b) (has-filter (λ other. not (nat_eq x other)) y (each_once xs) ∙ ap (λ (b : Bool). not (nat_eq x y) && b) (has-each_once y xs)) ∙ absorbed x y (has xs y)

-- a number that some item has, and that passes
pub among-once : {Item : Type 0} (test : ℕ → Bool) (number_of : Item → ℕ) (items : List Item) (number : ℕ)
    → Contains (each_once (filter test (map number_of items))) number ↔ (Any (λ item. number_of item ≡ number) items × (test number ≡ true))
among-once {Item} test number_of items number = (there, back)
  where
    numbers : List ℕ
    numbers = map number_of items

    says : has (each_once (filter test numbers)) number ≡ (test number && list_any (λ item. nat_eq number (number_of item)) items)
    says = has-each_once number (filter test numbers) ∙ has-filter test number numbers ∙ ap (λ (b : Bool). test number && b) (list_any-map (nat_eq number) number_of items)

    there : Contains (each_once (filter test numbers)) number → Any (λ item. number_of item ≡ number) items × (test number ≡ true)
    there among =
        let both = and_parts (test number) _ (sym says ∙ list_any-from_Contains nat_eq_equiv number (each_once (filter test numbers)) among) in
        let at = Any-from_list_any (λ item. nat_eq number (number_of item)) items both.1 in
        ((at.0, at.1, at.2, at.3, sym (eqb-true number (number_of at.1) at.4)), both.0)

    back : Any (λ item. number_of item ≡ number) items × (test number ≡ true) → Contains (each_once (filter test numbers)) number
    back it =
        let at = it.0 in
        let found = list_any-from_Any (λ item. nat_eq number (number_of item)) items (at.0, at.1, at.2, at.3, eq-eqb number (number_of at.1) (sym at.4)) in
        Contains-from_any eqb-true number (each_once (filter test numbers)) (says ∙ and_from (test number) _ it.1 found)

-- ---- none stands twice

distinct-filter : (test : ℕ → Bool) (numbers : List ℕ) → IsDistinct nat_eq numbers → IsDistinct nat_eq (filter test numbers)
unfolding IsDistinct
distinct-filter test [] apart = tt
distinct-filter test (x ∷ xs) apart =
    let rest = distinct-filter test xs (IsDistinct-tail nat_eq x xs apart) in
    let differ = recursion_from_All _ (filter test xs) (All-filter test (λ y. nat_eq x y ≡ false) xs (All-from_recursion _ xs (IsDistinct-head nat_eq x xs apart))) in
    cond_both (test x) (x ∷ filter test xs) (filter test xs) (λ (ns : List ℕ). IsDistinct nat_eq ns) (λ passes. IsDistinct-cons nat_eq x (filter test xs) differ rest) (λ fails. rest)

distinct-once : (numbers : List ℕ) → IsDistinct nat_eq (each_once numbers)
unfolding IsDistinct
distinct-once [] = tt
distinct-once (x ∷ xs) =
    let left = others x (each_once xs) in
    let passes = filter_passes (λ other. not (nat_eq x other)) (each_once xs) in
    let differ = recursion_from_All (λ y. nat_eq x y ≡ false) left (All-weaker _ (λ y. nat_eq x y ≡ false) (λ y h. not-true (nat_eq x y) h) left passes) in
    IsDistinct-cons nat_eq x left differ (distinct-filter (λ other. not (nat_eq x other)) (each_once xs) (distinct-once xs))

pub once-distinct : (numbers : List ℕ) → AreDistinct (each_once numbers)
once-distinct numbers i j d hi hj same = by (cases_order i j)
  where
    ns : List ℕ
    ns = each_once numbers

    differ : (k l : ℕ) → k < l → l < length ns → get_or ns k d ≡ get_or ns l d → ⊥
    differ k l lt hl e = true≢false (sym (eq-eqb _ _ e) ∙ apart_from_distinct nat_eq ns k l d (distinct-once numbers) lt hl)

    by : (i ≡ j) ⊎ ((i < j) ⊎ (j < i)) → i ≡ j
    by (inl e) = e
    by (inr (inl lt)) = absurd (differ i j lt hj same)
    by (inr (inr lt)) = absurd (differ j i lt hi (sym same))
