-- Rows that stand beside the names of a kind, ascending by their numbers.
use Rattle.std.proofs.Common.{◌≡◌, ℕ, zero, suc, ◌+◌, ◌<◌, ◌==◌, Bool, true, false, List, [], ◌∷◌, length, map, get_or, refl, sym, ap, ◌∙◌, arith, inl, inr, Some, zero-add}
use Rattle.std.specs.Cmp.{nat_cmp_is}
use Rattle.std.specs.List.{All, AllByRecursion, enumerate_from, find}
use Rattle.std.specs.Option.{option_map}
use Rattle.std.specs.Ordering.{nat_cmp, is_lt}
use Rattle.std.specs.Str.{bytes_eq}
use Rattle.std.specs.declared.cmp.Ordering.TheVariants.{Equal, Greater}
use Rattle.std.proofs.Math.Dec.{ltb}
use Rattle.std.proofs.lemmas.Bool.{cases_Bool, ltb-true, ltb-false, true≢false, eq-eqb, ne_eqb}
use Rattle.std.proofs.lemmas.Cmp.{nat_cmp_total}
use Rattle.std.proofs.lemmas.List.{get_or_default}
use Rattle.std.proofs.lemmas.List.Elements.{All-from_recursion}
use Rattle.std.proofs.lemmas.List.FromFn.{get_or-enumerate_from, length-enumerate_from}
use Rattle.std.proofs.lemmas.Option.{same_Some}
use Rattle.accounts.specs.Laws.{AreDistinct}
use Rattle.hosts_join.specs.Accounts.{Account, Accounts, no_account, place, place_of}
use Rattle.hosts_join.specs.Lawful.{AreLawfulAccounts}
use Rattle.hosts_join.specs.Rules.{account}
use Rattle.hosts_join.proofs.Grouping.{bytes_same, bytes_refl}
use Rattle.hosts_join.proofs.Pairing.{place-holds}
use Rattle.ownership.specs.Mappings.{number_at, AreDistinct as HaveOneEach}
use Rattle.mergedfiles.specs.Order.{by_number}
use Rattle.mergedfiles.specs.ReadBack.{Ascend, HasNumber}
use Rattle.mergedfiles.proofs.Ordering.{In, in-at, at-in, Ahead, Ascends, ordered-in, in-ordered, ascends-in_order, differ}
use Rattle.mergedfiles.proofs.Orders.{numbers-differ}
use Rattle.mergedfiles.proofs.Places.{place-within}
use Rattle.mergedfiles.proofs.ReadText.{Zip}

-- ---- names at their places

-- the place of the first that passes
place_first : {X : Type 0} (p : X → Bool) (xs : List X) (i : ℕ) (d : X) → i < length xs → p (get_or xs i d) ≡ true → ((j : ℕ) → j < i → p (get_or xs j d) ≡ false) → place p xs ≡ Some i
place_first p [] i d h hit before = absurd (omega (arith, h))
place_first p (x ∷ xs) zero d h hit before = rw hit refl
place_first p (x ∷ xs) (suc i) d h hit before =
    let rest = place_first p xs i d (omega (arith, h)) hit (λ j l. before (suc j) (omega (arith, l))) in
    rw (before zero (omega arith), rest) refl

pub place-named : (a : Accounts) (i : ℕ) → AreLawfulAccounts a → i < length a.names → place_of a.names (account a i).name ≡ Some i
place-named a i lawful h = place_first (λ (x : Account). bytes_eq (account a i).name x.name) a.names i no_account h (bytes_refl (account a i).name) (λ j l. elim (cases_Bool (bytes_eq (account a i).name (account a j).name)) [
  | inl t ↦ let same : i ≡ j = lawful.names_differ i j h (omega (arith, h, l)) (bytes_same (account a i).name (account a j).name t) in absurd (omega (arith, l, same))
  | inr f ↦ f
])

pub place-name : (a : Accounts) (name : List ℕ) (i : ℕ) → place_of a.names name ≡ Some i → (account a i).name ≡ name
place-name a name i e = sym (bytes_same name (account a i).name (place-holds (λ (x : Account). bytes_eq name x.name) a.names i no_account e).1)

-- ---- the names by number

less-than : (x y : ℕ) → is_lt (nat_cmp x y) ≡ true → x < y
less-than x y e = elim (cases_Bool (ltb x y)) [
  | inl t ↦ ltb-true x y t
  | inr f ↦ elim (cases_Bool (ltb y x)) [
    | inl t ↦ absurd (true≢false (sym e ∙ ap is_lt (sym (nat_cmp_is x y Greater (ltb-true y x t)))))
    | inr g ↦ absurd (true≢false (sym e ∙ ap is_lt (sym (nat_cmp_is x y Equal (omega (arith, ltb-false x y f, ltb-false y x g))))))
  ]
]

abbrev pub number_of : ℕ × ℕ → ℕ
number_of p = p.1

pub ascends : (m : List ℕ) → HaveOneEach m → Ascends nat_cmp_total number_of (by_number m)
ascends m apart = ascends-in_order nat_cmp_total number_of (enumerate_from 0 m) (differ nat_cmp_total number_of (enumerate_from 0 m) (numbers-differ m apart))

-- an index with its number
abbrev pub IsAt : List ℕ → ℕ × ℕ → Type 0
IsAt m p = (p.0 < length m) × (p.1 ≡ number_at m p.0)

at-place : (m : List ℕ) (k i v : ℕ) → k < length m → ◌≡◌ {A = ℕ × ℕ} (0 + k, get_or m k v) (i, v) → IsAt m (i, v)
at-place m k i v h e =
    let same : k ≡ i = sym (zero-add k) ∙ ap (λ (p : ℕ × ℕ). p.0) e in
    let number : get_or m k v ≡ v = ap (λ (p : ℕ × ℕ). p.1) e in
    (omega (arith, h, same), sym number ∙ get_or_default m k v 0 h ∙ ap (number_at m) same)

is-at : (m : List ℕ) (p : ℕ × ℕ) → In p (by_number m) → IsAt m p
is-at m p i =
    let c = at-in p (enumerate_from 0 m) (ordered-in nat_cmp_total number_of p (enumerate_from 0 m) i) in
    let h : c.0 < length m = omega (arith, c.1, length-enumerate_from 0 m) in
    at-place m c.0 p.0 p.1 h (sym (get_or-enumerate_from 0 m c.0 p h) ∙ c.2)

all-in : {X : Type 0} (P : X → Type 0) (xs : List X) → ((x : X) → In x xs → P x) → AllByRecursion P xs
all-in P [] f = tt
all-in P (x ∷ xs) f = (f x (inl refl), all-in P xs (λ y i. f y (inr i)))

pub all-at : (m : List ℕ) → AllByRecursion (IsAt m) (by_number m)
all-at m = all-in (IsAt m) (by_number m) (is-at m)

in-number : (m : List ℕ) (i v : ℕ) → i < length m → number_at m i ≡ v → In (i, v) (by_number m)
in-number m i v h e =
    let h' : i < length (enumerate_from 0 m) = omega (arith, h, length-enumerate_from 0 m) in
    let read : ◌≡◌ {A = ℕ × ℕ} (get_or (enumerate_from 0 m) i (0, 0)) (i, v) = get_or-enumerate_from 0 m i (0, 0) h ∙ ap (λ k. (k, number_at m i)) (zero-add i) ∙ ap (λ w. (i, w)) e in
    in-ordered nat_cmp_total number_of (i, v) (enumerate_from 0 m) (in-at (i, v) (0, 0) (enumerate_from 0 m) i h' read)

-- ---- the rows beside them

pub distinct-cons : {K : Type 0} (x : K) (xs : List K) → AllByRecursion (λ y. x ≡ y → ⊥) xs → AreDistinct xs → (i j : ℕ) (d : K) → i < length (x ∷ xs) → j < length (x ∷ xs) → get_or (x ∷ xs) i d ≡ get_or (x ∷ xs) j d → i ≡ j
distinct-cons x xs other rest zero zero d a b e = refl
distinct-cons x xs other rest zero (suc j) d a b e = absurd (All-from_recursion (λ y. x ≡ y → ⊥) xs other j d (omega (arith, b)) e)
distinct-cons x xs other rest (suc i) zero d a b e = absurd (All-from_recursion (λ y. x ≡ y → ⊥) xs other i d (omega (arith, a)) (sym e))
distinct-cons x xs other rest (suc i) (suc j) d a b e = ap suc (rest i j d (omega (arith, a)) (omega (arith, b)) e)

ascend-cons : (u : ℕ) (us : List ℕ) → AllByRecursion (λ v. u < v) us → Ascend us → (j k : ℕ) → j < k → k < length (u ∷ us) → get_or (u ∷ us) j 0 < get_or (u ∷ us) k 0
ascend-cons u us all asc j zero l h = absurd (omega (arith, l))
ascend-cons u us all asc zero (suc k) l h = All-from_recursion (λ v. u < v) us all k 0 (omega (arith, h))
ascend-cons u us all asc (suc j) (suc k) l h = asc j k (omega (arith, l)) (omega (arith, h))

greater-differ : (u : ℕ) (us : List ℕ) → AllByRecursion (λ v. u < v) us → AllByRecursion (λ v. u ≡ v → ⊥) us
greater-differ u [] all = tt
greater-differ u (v ∷ us) all = ((λ e. let less : u < v = all.0 in omega (arith, less, e)), greater-differ u us all.1)

pub same-number : (a : Accounts) (m : List ℕ) (n o : List ℕ) (v w : ℕ) → HasNumber a m n v → HasNumber a m o w → n ≡ o → v ≡ w
same-number a m n o v w h k e =
    let same : h.0 ≡ k.0 = same_Some h.0 k.0 (sym h.1 ∙ ap (place_of a.names) e ∙ k.1) in
    sym h.2 ∙ ap (number_at m) same ∙ k.2

module _ {Row : Type 0} (name : Row → List ℕ) (number : Row → ℕ) (IsRow : Row → Type 0) (a : Accounts) (m : List ℕ) where
  -- the row of a name with its number
  abbrev pub IsOf : ℕ × ℕ → Row → Type 0
  IsOf p row = (name row ≡ (account a p.0).name) × (number row ≡ p.1) × IsRow row

  pub all-rows : (ps : List (ℕ × ℕ)) (rows : List Row) → Zip IsOf ps rows → All IsRow rows
  all-rows ps rows z = All-from_recursion IsRow rows (by ps rows z)
    where
      by : (ps : List (ℕ × ℕ)) (rows : List Row) → Zip IsOf ps rows → AllByRecursion IsRow rows
      by [] [] z = tt
      by [] (row ∷ rows) z = absurd z
      by (p ∷ ps) [] z = absurd z
      by (p ∷ ps) (row ∷ rows) z = (z.0.2, by ps rows z.1)

  greater : (p : ℕ × ℕ) (ps : List (ℕ × ℕ)) (rows : List Row) → Ahead nat_cmp_total number_of p ps → Zip IsOf ps rows → (u : ℕ) → u ≡ p.1 → AllByRecursion (λ v. u < v) (map number rows)
  greater p [] [] ahead z u e = tt
  greater p [] (row ∷ rows) ahead z u e = absurd z
  greater p (q ∷ ps) [] ahead z u e = absurd z
  greater p (q ∷ ps) (row ∷ rows) ahead z u e =
      let less : p.1 < q.1 = less-than p.1 q.1 (ahead q (inl refl)) in
      let is : number row ≡ q.1 = z.0.1 in
      (omega (arith, less, is, e), greater p ps rows (λ y i. ahead y (inr i)) z.1 u e)

  pub ascending : (ps : List (ℕ × ℕ)) (rows : List Row) → Ascends nat_cmp_total number_of ps → Zip IsOf ps rows → Ascend (map number rows)
  ascending [] [] asc z = λ j k l h. absurd (omega (arith, h))
  ascending [] (row ∷ rows) asc z = absurd z
  ascending (p ∷ ps) [] asc z = absurd z
  ascending (p ∷ ps) (row ∷ rows) asc z = ascend-cons (number row) (map number rows) (greater p ps rows asc.0 z.1 (number row) z.0.1) (ascending ps rows asc.1 z.1)

  pub numbers-apart : (ps : List (ℕ × ℕ)) (rows : List Row) → Ascends nat_cmp_total number_of ps → Zip IsOf ps rows → AreDistinct (map number rows)
  numbers-apart [] [] asc z = λ i j d h k e. absurd (omega (arith, h))
  numbers-apart [] (row ∷ rows) asc z = absurd z
  numbers-apart (p ∷ ps) [] asc z = absurd z
  numbers-apart (p ∷ ps) (row ∷ rows) asc z = distinct-cons (number row) (map number rows) (greater-differ (number row) (map number rows) (greater p ps rows asc.0 z.1 (number row) z.0.1)) (numbers-apart ps rows asc.1 z.1)

  module _ (numbered : (row : Row) → IsRow row → HasNumber a m (name row) (number row)) where
    other-names : (row : Row) (ps : List (ℕ × ℕ)) (rows : List Row) → IsRow row → Zip IsOf ps rows → AllByRecursion (λ v. number row < v) (map number rows) → AllByRecursion (λ n. name row ≡ n → ⊥) (map name rows)
    other-names row [] [] is z all = tt
    other-names row [] (other ∷ rows) is z all = absurd z
    other-names row (p ∷ ps) [] is z all = absurd z
    other-names row (p ∷ ps) (other ∷ rows) is z all =
        ((λ e. let less : number row < number other = all.0 in let same : number row ≡ number other = same-number a m (name row) (name other) (number row) (number other) (numbered row is) (numbered other z.0.2) e in omega (arith, less, same)), other-names row ps rows is z.1 all.1)

    pub names-apart : (ps : List (ℕ × ℕ)) (rows : List Row) → Ascends nat_cmp_total number_of ps → Zip IsOf ps rows → AreDistinct (map name rows)
    names-apart [] [] asc z = λ i j d h k e. absurd (omega (arith, h))
    names-apart [] (row ∷ rows) asc z = absurd z
    names-apart (p ∷ ps) [] asc z = absurd z
    names-apart (p ∷ ps) (row ∷ rows) asc z = distinct-cons (name row) (map name rows) (other-names row ps rows z.0.2 z.1 (greater p ps rows asc.0 z.1 (number row) z.0.1)) (names-apart ps rows asc.1 z.1)

  look : (i v : ℕ) (n : List ℕ) → (account a i).name ≡ n → (ps : List (ℕ × ℕ)) (rows : List Row) → Ascends nat_cmp_total number_of ps → Zip IsOf ps rows → In (i, v) ps → option_map name (find (λ row. v == number row) rows) ≡ Some n
  look i v n same [] rows asc z at = absurd at
  look i v n same (p ∷ ps) [] asc z at = absurd z
  look i v n same (p ∷ ps) (row ∷ rows) asc z (inl e) =
      let here : (v == number row) ≡ true = eq-eqb v (number row) (ap (λ (q : ℕ × ℕ). q.1) e ∙ sym z.0.1) in
      rw here (ap Some (z.0.0 ∙ ap (λ (q : ℕ × ℕ). (account a q.0).name) (sym e) ∙ same))
  look i v n same (p ∷ ps) (row ∷ rows) asc z (inr at) =
      let less : p.1 < v = less-than p.1 v (asc.0 (i, v) at) in
      let is : number row ≡ p.1 = z.0.1 in
      let away : (v == number row) ≡ false = ne_eqb v (number row) (λ e. omega (arith, less, is, e)) in
      rw away (look i v n same ps rows asc.1 z.1 at)

  -- each number is looked up as its name
  pub looked-up : (rows : List Row) → length m ≡ length a.names → HaveOneEach m → Zip IsOf (by_number m) rows → (n : List ℕ) (v : ℕ) → HasNumber a m n v → option_map name (find (λ row. v == number row) rows) ≡ Some n
  looked-up rows long apart z n v has =
      let within : has.0 < length a.names = place-within (λ (x : Account). bytes_eq n x.name) a.names has.0 has.1 in
      look has.0 v n (place-name a n has.0 has.1) (by_number m) rows (ascends m apart) z (in-number m has.0 v (omega (arith, within, long)) has.2)
