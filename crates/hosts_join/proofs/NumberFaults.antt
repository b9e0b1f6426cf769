-- What the two faults of numbers say.
use Rattle.std.proofs.Common.{◌≡◌, ◌⊎◌, ℕ, zero, suc, ◌+◌, ◌<◌, ◌≤◌, ◌^◌, ◌==◌, Bool, true, false, cond, List, [], ◌∷◌, ◌++◌, length, map, get_or, Contains, Option, Some, None, Err, refl, sym, ap, ◌∙◌, subst, inl, inr, arith}
use Rattle.std.specs.Prelude.{slice_get, nat_lt}
use Rattle.std.specs.List.{count_by, find}
use Rattle.std.specs.Option.{MatchOption, option_map}
use Rattle.std.proofs.lemmas.Bool.{cases_Bool, cases_lt, cases_eq, eqb-true, eq-eqb, ltb-true, ltb-false, leb-true, false≢true, and_parts}
use Rattle.std.proofs.lemmas.List.{get_or_default, get_or-map, length-map, append-nil, append_assoc}
use Rattle.std.proofs.lemmas.List.Sums.{sum_by-cons}
use Rattle.hosts_join.proofs.Refusals.{is-enough}
use Rattle.hosts_join.specs.Accounts.{Accounts, Pair, no_account}
use Rattle.accounts.specs.Laws.{AreDistinct}
use Rattle.idtext.specs.First.{or_else, unless}
use Rattle.idtext.proofs.FirstLemmas.{none_of_both}
use Rattle.hosts_join.specs.Count.{count_below}
use Rattle.hosts_join.specs.declared.Class.{Class}
use Rattle.hosts_join.specs.declared.Class.TheVariants.{Pinned, Regular, System}
use Rattle.hosts_join.specs.declared.Which.{Which}
use Rattle.hosts_join.specs.declared.fault.PoolClass.{PoolClass}
use Rattle.hosts_join.specs.declared.fault.PoolClass.TheVariants as pool
use Rattle.hosts_join.specs.declared.fault.SiteFault.{SiteFault}
use Rattle.hosts_join.specs.declared.fault.SiteFault.TheVariants.{PinClash, PoolTooSmall}
use Rattle.hosts_join.specs.NumberFaults.{AreSoMany, ClashesAreThere, IsLeastClash, IsLargeEnough, HaveSoMany, NoneTwice, SmallPoolsAreThere}
use Rattle.hosts_join.specs.PinFaults.{NoneApart, NoneReserved, StandsAt}
use Rattle.hosts_join.specs.Rules.{Clash, claim_fault, claims, clash, clash_of, class_at, class_of, class_served, disagreement, disagrees, first_some, in_pool, least, lesser, names_in, pin_reserved, pool_size, refusal, repeats, reserver, same_class, sources, too_small}
use Rattle.hosts_join.proofs.NoPinFaults.{none-apart, none-reserved}
use Rattle.hosts_join.proofs.Sources.{none-mapped}
use Rattle.hosts_join.proofs.Repeats.{clash_of-again, clash_of-apart, first_name, lesser_last}

-- ---- the place of a name in a list with one more

stands-lt : (ps : List Pair) (i : ℕ) (n : List ℕ) (v : ℕ) → StandsAt ps i n v → i < length ps
stands-lt [] i n v h = absurd (cc)
stands-lt (p ∷ ps) zero n v h = omega arith
stands-lt (p ∷ ps) (suc i) n v h = let l = stands-lt ps i n v h in omega (arith, l)

old-at : (ps : List Pair) (p : Pair) (i : ℕ) → i < length ps → slice_get (ps ++ p ∷ []) i ≡ slice_get ps i
old-at [] p i l = absurd (omega (arith, l))
old-at (q ∷ ps) p zero l = refl
old-at (q ∷ ps) p (suc i) l = old-at ps p i (omega (arith, l))

new-at : (ps : List Pair) (p : Pair) → slice_get (ps ++ p ∷ []) (length ps) ≡ Some p
new-at [] p = refl
new-at (q ∷ ps) p = new-at ps p

within : (ps : List Pair) (p : Pair) (i : ℕ) → i < length (ps ++ p ∷ []) → i ≤ length ps
within [] p i l = omega (arith, l)
within (q ∷ ps) p zero l = omega arith
within (q ∷ ps) p (suc i) l = let m = within ps p i (omega (arith, l)) in omega (arith, m)

kept : (ps : List Pair) (p : Pair) (i : ℕ) (n : List ℕ) (v : ℕ) → StandsAt ps i n v → StandsAt (ps ++ p ∷ []) i n v
kept ps p i n v h = old-at ps p i (stands-lt ps i n v h) ∙ h

-- it stood there, or is the new one
record IsNew (ps : List Pair) (p : Pair) (i : ℕ) (n : List ℕ) (v : ℕ) : Type 0 where
  pub place : i ≡ length ps
  pub name : p.name ≡ n
  pub number : p.number ≡ v

either-at : (ps : List Pair) (p : Pair) (i : ℕ) (n : List ℕ) (v : ℕ) → StandsAt (ps ++ p ∷ []) i n v → StandsAt ps i n v ⊎ IsNew ps p i n v
either-at ps p i n v h = elim (cases_lt i (length ps)) [
  | inl low ↦ inl (sym (old-at ps p i low) ∙ h)
  | inr high ↦
      let most = within ps p i (stands-lt (ps ++ p ∷ []) i n v h) in
      let last : i ≡ length ps = omega (arith, most, high) in
      let pair : Pair = record { name = n; number = v } in
      let here : Some p ≡ Some pair = sym (new-at ps p) ∙ ap (slice_get (ps ++ p ∷ [])) (sym last) ∙ h in
      let same : p ≡ pair = cc in
      inr (record { place = last; name = ap (λ (q : Pair). q.name) same; number = ap (λ (q : Pair). q.number) same })
]

-- ---- the first that has a number

none-has : (ps : List Pair) (v : ℕ) → first_name ps v ≡ None → (i : ℕ) (n : List ℕ) → StandsAt ps i n v → ⊥
none-has [] v e i n h = absurd (cc)
none-has (p ∷ ps) v e i n h = by (p.number == v) refl i (λ f j more. none-has ps v f j n more) e h
  where
    by : (b : Bool) → (p.number == v) ≡ b → (i : ℕ) → (first_name ps v ≡ None → (j : ℕ) → StandsAt ps j n v → ⊥) → option_map (λ (q : Pair). q.name) (cond b (Some p) (find (λ q. q.number == v) ps)) ≡ None → StandsAt (p ∷ ps) i n v → ⊥
    by true is i rest f h = absurd (cc)
    by false is zero rest f h =
        let pair : Pair = record { name = n; number = v } in
        let same : p ≡ pair = cc in
        false≢true (sym is ∙ eq-eqb p.number v (ap (λ (q : Pair). q.number) same))
    by false is (suc i) rest f h = rest f i h

record IsFirstOf (ps : List Pair) (v : ℕ) (n : List ℕ) : Type 0 where
  pub place : ℕ
  pub there : StandsAt ps place n v
  pub none_before : (k : ℕ) (m : List ℕ) → k < place → StandsAt ps k m v → ⊥

first-has : (ps : List Pair) (v : ℕ) (n : List ℕ) → first_name ps v ≡ Some n → IsFirstOf ps v n
first-has [] v n e = absurd (cc)
first-has (p ∷ ps) v n e = by (p.number == v) refl (λ f. first-has ps v n f) e
  where
    here : StandsAt (p ∷ ps) 0 p.name p.number
    here = refl

    differs : (m : List ℕ) → (p.number == v) ≡ false → StandsAt (p ∷ ps) 0 m v → ⊥
    differs m is h =
        let pair : Pair = record { name = m; number = v } in
        let same : p ≡ pair = cc in
        false≢true (sym is ∙ eq-eqb p.number v (ap (λ (q : Pair). q.number) same))

    before : (more : IsFirstOf ps v n) → (p.number == v) ≡ false → (k : ℕ) (m : List ℕ) → k < suc more.place → StandsAt (p ∷ ps) k m v → ⊥
    before more is zero m l h = differs m is h
    before more is (suc k) m l h = more.none_before k m (omega (arith, l)) h

    by : (b : Bool) → (p.number == v) ≡ b → (first_name ps v ≡ Some n → IsFirstOf ps v n) → option_map (λ (q : Pair). q.name) (cond b (Some p) (find (λ q. q.number == v) ps)) ≡ Some n → IsFirstOf (p ∷ ps) v n
    by true is rest f =
        let name : p.name ≡ n = cc in
        let P : List ℕ → Type 0 = λ m. StandsAt (p ∷ ps) 0 m v in
        let Q : ℕ → Type 0 = λ u. StandsAt (p ∷ ps) 0 p.name u in
        record { place = 0; there = subst P name (subst Q (eqb-true p.number v is) here); none_before = λ k m l h. absurd (omega (arith, l)) }
    by false is rest f =
        let more = rest f in
        record { place = suc more.place; there = more.there; none_before = before more is }

-- ---- one more name with a number

abbrev IsTold : List Pair → Option Clash → Type 0
IsTold ps o = MatchOption o (NoneTwice ps) (λ c. IsLeastClash ps c.number c.first c.second)

-- a later place is in the list before
earlier : (ps : List Pair) (p : Pair) (i j v u : ℕ) (n m : List ℕ) → i < j → StandsAt (ps ++ p ∷ []) i n v → StandsAt (ps ++ p ∷ []) j m u → StandsAt ps i n v
earlier ps p i j v u n m l one other = elim (either-at ps p i n v one) [
  | inl h ↦ h
  | inr new ↦ let most = within ps p j (stands-lt (ps ++ p ∷ []) j m u other) in absurd (omega (arith, most, new.place, l))
]

-- a new number
apart-more : (ps : List Pair) (p : Pair) → first_name ps p.number ≡ None → (o : Option Clash) → IsTold ps o → IsTold (ps ++ p ∷ []) o
apart-more ps p none None told = λ i j v n m l one other.
    let here = earlier ps p i j v v n m l one other in
    elim (either-at ps p j m v other) [
      | inl h ↦ told i j v n m l here h
      | inr new ↦ let P : ℕ → Type 0 = λ u. StandsAt ps i n u in none-has ps p.number none i n (subst P (sym new.number) here)
    ]
apart-more ps p none (Some c) told = record {
  one = told.one;
  other = told.other;
  in_order = told.in_order;
  first_has = kept ps p told.one c.first c.number told.first_has;
  second_has = kept ps p told.other c.second c.number told.second_has;
  none_between = λ k n l h. told.none_between k n l (earlier ps p k told.other c.number c.number n c.second l h (kept ps p told.other c.second c.number told.second_has));
  least = λ i j v n m l one other.
      let here = earlier ps p i j v v n m l one other in
      elim (either-at ps p j m v other) [
        | inl h ↦ told.least i j v n m l here h
        | inr new ↦ let P : ℕ → Type 0 = λ u. StandsAt ps i n u in absurd (none-has ps p.number none i n (subst P (sym new.number) here))
      ];
}

-- a number that another has: the new clash
new_clash : (ps : List Pair) (p : Pair) (n : List ℕ) → IsFirstOf ps p.number n → ((i j v : ℕ) (k m : List ℕ) → i < j → StandsAt ps i k v → StandsAt ps j m v → p.number < v) → IsLeastClash (ps ++ p ∷ []) p.number n p.name
new_clash ps p n first lesser = record {
  one = first.place;
  other = length ps;
  in_order = stands-lt ps first.place n p.number first.there;
  first_has = kept ps p first.place n p.number first.there;
  second_has = new-at ps p;
  none_between = λ k m l h. elim (either-at ps p k m p.number h) [
    | inl there ↦ elim (cases_lt k first.place) [
      | inl low ↦ absurd (first.none_before k m low there)
      | inr high ↦ elim (cases_lt first.place k) [
        | inl more ↦ let less = lesser first.place k p.number n m more first.there there in absurd (omega (arith, less))
        | inr most ↦ omega (arith, high, most)
      ]
    ]
    | inr new ↦ absurd (omega (arith, new.place, l))
  ];
  least = λ i j v k m l one other.
      let here = earlier ps p i j v v k m l one other in
      elim (either-at ps p j m v other) [
        | inl h ↦ let less = lesser i j v k m l here h in omega (arith, less)
        | inr new ↦ omega (arith, new.number)
      ];
}

-- and the one that was there
old_clash : (ps : List Pair) (p : Pair) (d : Clash) → d.number ≤ p.number → IsLeastClash ps d.number d.first d.second → IsLeastClash (ps ++ p ∷ []) d.number d.first d.second
old_clash ps p d most told = record {
  one = told.one;
  other = told.other;
  in_order = told.in_order;
  first_has = kept ps p told.one d.first d.number told.first_has;
  second_has = kept ps p told.other d.second d.number told.second_has;
  none_between = λ k n l h. told.none_between k n l (earlier ps p k told.other d.number d.number n d.second l h (kept ps p told.other d.second d.number told.second_has));
  least = λ i j v n m l one other.
      let here = earlier ps p i j v v n m l one other in
      elim (either-at ps p j m v other) [
        | inl h ↦ told.least i j v n m l here h
        | inr new ↦ omega (arith, new.number, most)
      ];
}

again-more : (ps : List Pair) (p : Pair) (n : List ℕ) → IsFirstOf ps p.number n → (o : Option Clash) → IsTold ps o → IsTold (ps ++ p ∷ []) (Some (lesser_last o (record { number = p.number; first = n; second = p.name })))
again-more ps p n first None told = new_clash ps p n first (λ i j v k m l one other. absurd (told i j v k m l one other))
again-more ps p n first (Some d) told = elim (cases_Bool (nat_lt p.number d.number)) [
  | inl less ↦ rw less (new_clash ps p n first (λ i j v k m l one other. let most = told.least i j v k m l one other in let lower = ltb-true p.number d.number less in omega (arith, most, lower)))
  | inr more ↦ rw more (old_clash ps p d (ltb-false p.number d.number more) told)
]

one-more : (ps : List Pair) (p : Pair) → IsTold ps (clash_of ps) → IsTold (ps ++ p ∷ []) (clash_of (ps ++ p ∷ []))
one-more ps p told = by (first_name ps p.number) refl
  where
    by : (o : Option (List ℕ)) → first_name ps p.number ≡ o → IsTold (ps ++ p ∷ []) (clash_of (ps ++ p ∷ []))
    by None e = subst (IsTold (ps ++ p ∷ [])) (sym (clash_of-apart ps p e)) (apart-more ps p e (clash_of ps) told)
    by (Some n) e = subst (IsTold (ps ++ p ∷ [])) (sym (clash_of-again ps p n e)) (again-more ps p n (first-has ps p.number n e) (clash_of ps) told)

clashes-from : (before ps : List Pair) → IsTold before (clash_of before) → IsTold (before ++ ps) (clash_of (before ++ ps))
clashes-from before [] told = let P : List Pair → Type 0 = λ l. IsTold l (clash_of l) in subst P (sym (append-nil before)) told
clashes-from before (p ∷ ps) told =
    let P : List Pair → Type 0 = λ l. IsTold l (clash_of l) in
    subst P (append_assoc before (p ∷ []) ps) (clashes-from (before ++ p ∷ []) ps (one-more before p told))

pub clash-told : (given : List Pair) → IsTold given (clash_of given)
unfolding repeats least
clash-told given = clashes-from [] given (λ i j v n m l one other. cc)

-- ---- how many there are

distinct-more : (x : ℕ) (xs : List ℕ) → ¬ Contains xs x → AreDistinct xs → AreDistinct (x ∷ xs)
distinct-more x xs none apart = by
  where
    by : (i j : ℕ) (d : ℕ) → i < length (x ∷ xs) → j < length (x ∷ xs) → get_or (x ∷ xs) i d ≡ get_or (x ∷ xs) j d → i ≡ j
    by zero zero d hi hj e = refl
    by zero (suc j) d hi hj e = absurd (none (j, omega (arith, hj), get_or_default xs j x d (omega (arith, hj)) ∙ sym e))
    by (suc i) zero d hi hj e = absurd (none (i, omega (arith, hi), get_or_default xs i x d (omega (arith, hi)) ∙ e))
    by (suc i) (suc j) d hi hj e = ap suc (apart i j d (omega (arith, hi)) (omega (arith, hj)) e)

contains-more : (x : ℕ) (xs : List ℕ) (v : ℕ) → Contains xs v → Contains (x ∷ xs) v
contains-more x xs v there = (suc there.0, omega (arith, there.1), there.2)

contains-cases : (x : ℕ) (xs : List ℕ) (v : ℕ) → Contains (x ∷ xs) v → (x ≡ v) ⊎ Contains xs v
contains-cases x xs v (zero, l, e) = inl e
contains-cases x xs v (suc k, l, e) = inr (k, omega (arith, l), e)

-- the numbers below a bound that pass
below-many : (test : ℕ → Bool) (n : ℕ) → AreSoMany (λ v. (v < n) × (test v ≡ true)) (count_below test n)
unfolding count_below
below-many test zero = record { numbers = []; exactly = λ v. (λ there. absurd (omega (arith, there.1)), λ h. absurd (omega (arith, h.0))); once = λ i j d hi hj e. absurd (omega (arith, hi)); counted = refl }
below-many test (suc n) = by (test n) refl (below-many test n)
  where
    by : (b : Bool) → test n ≡ b → AreSoMany (λ v. (v < n) × (test v ≡ true)) (count_below test n) → AreSoMany (λ v. (v < suc n) × (test v ≡ true)) (count_below test n + cond b 1 0)
    by true is before = record {
      numbers = n ∷ before.numbers;
      exactly = λ v. (
        λ there. elim (contains-cases n before.numbers v there) [
          | inl e ↦ (omega (arith, e), ap test (sym e) ∙ is)
          | inr h ↦ let had = (before.exactly v).0 h in (omega (arith, had.0), had.1)
        ],
        λ h. elim (cases_eq v n) [
          | inl e ↦ (0, omega arith, sym e)
          | inr other ↦ contains-more n before.numbers v ((before.exactly v).1 (omega (arith, h.0, other), h.1))
        ],
      );
      once = distinct-more n before.numbers (λ there. let had = (before.exactly n).0 there in omega (arith, had.0)) before.once;
      counted = omega (arith, before.counted);
    }
    by false is before = record {
      numbers = before.numbers;
      exactly = λ v. (
        λ there. let had = (before.exactly v).0 there in (omega (arith, had.0), had.1),
        λ h. elim (cases_eq v n) [
          | inl e ↦ absurd (false≢true (sym is ∙ ap test (sym e) ∙ h.1))
          | inr other ↦ (before.exactly v).1 (omega (arith, h.0, other), h.1)
        ],
      );
      once = before.once;
      counted = omega (arith, before.counted);
    }

-- the same for another word for them
many-such : (One Other : ℕ → Type 0) (n m : ℕ) → ((v : ℕ) → One v → Other v) → ((v : ℕ) → Other v → One v) → n ≡ m → AreSoMany One n → AreSoMany Other m
many-such One Other n m to back e one = record {
  numbers = one.numbers;
  exactly = λ v. (λ there. to v ((one.exactly v).0 there), λ h. (one.exactly v).1 (back v h));
  once = one.once;
  counted = one.counted ∙ e;
}

-- how many names have a class
shifted : (l : List ℕ) (v : ℕ) → Contains (map suc l) (suc v) → Contains l v
shifted [] v there = absurd (omega (arith, there.1))
shifted (x ∷ l) v (zero, h, e) = (0, omega arith, let same : suc x ≡ suc v = e in omega (arith, same))
shifted (x ∷ l) v (suc k, h, e) = contains-more x l v (shifted l v (k, omega (arith, h), e))

no-zero : (l : List ℕ) → ¬ Contains (map suc l) 0
no-zero [] there = omega (arith, there.1)
no-zero (x ∷ l) (zero, h, e) = let same : suc x ≡ 0 = e in absurd (omega (arith, same))
no-zero (x ∷ l) (suc k, h, e) = no-zero l (k, omega (arith, h), e)

shift : (l : List ℕ) (v : ℕ) → Contains l v → Contains (map suc l) (suc v)
shift [] v there = absurd (omega (arith, there.1))
shift (x ∷ l) v (zero, h, e) = (0, omega arith, ap suc e)
shift (x ∷ l) v (suc k, h, e) = contains-more (suc x) (map suc l) (suc v) (shift l v (k, omega (arith, h), e))

shift-apart : (l : List ℕ) → AreDistinct l → AreDistinct (map suc l)
shift-apart l apart = λ i j d hi hj e.
    let size = length-map l suc in
    let one = get_or-map suc l i 0 d (omega (arith, hi, size)) in
    let other = get_or-map suc l j 0 d (omega (arith, hj, size)) in
    let same : suc (get_or l i 0) ≡ suc (get_or l j 0) = sym one ∙ e ∙ other in
    apart i j 0 (omega (arith, hi, size)) (omega (arith, hj, size)) (omega (arith, same))

abbrev Passes : {X : Type 0} → (X → Bool) → List X → X → ℕ → Type 0
Passes p xs d i = (i < length xs) × (p (get_or xs i d) ≡ true)

passing-many : {X : Type 0} (p : X → Bool) (xs : List X) (d : X) → AreSoMany (Passes p xs d) (count_by p xs)
passing-many p [] d = record { numbers = []; exactly = λ v. (λ there. absurd (omega (arith, there.1)), λ h. absurd (omega (arith, h.0))); once = λ i j e hi hj same. absurd (omega (arith, hi)); counted = refl }
passing-many p (x ∷ xs) d = by (p x) refl (passing-many p xs d) (sum_by-cons (λ y. cond (p y) 1 0) x xs)
  where
    back : (l : List ℕ) → ((v : ℕ) → Contains l v → Passes p xs d v) → (v : ℕ) → Contains (map suc l) v → Passes p (x ∷ xs) d v
    back l before zero there = absurd (no-zero l there)
    back l before (suc v) there = let had = before v (shifted l v there) in (omega (arith, had.0), had.1)

    by : (b : Bool) → p x ≡ b → AreSoMany (Passes p xs d) (count_by p xs) → count_by p (x ∷ xs) ≡ cond (p x) 1 0 + count_by p xs → AreSoMany (Passes p (x ∷ xs) d) (count_by p (x ∷ xs))
    by true is before sum = record {
      numbers = 0 ∷ map suc before.numbers;
      exactly = λ v. (
        λ there. elim (contains-cases 0 (map suc before.numbers) v there) [
          | inl e ↦ let P : ℕ → Type 0 = λ i. Passes p (x ∷ xs) d i in subst P e (omega arith, is)
          | inr h ↦ back before.numbers (λ u. (before.exactly u).0) v h
        ],
        forth before v,
      );
      once = distinct-more 0 (map suc before.numbers) (no-zero before.numbers) (shift-apart before.numbers before.once);
      counted = let here : ◌≡◌ {A = ℕ} (cond (p x) 1 0) 1 = ap (λ b. cond b 1 0) is in let size = length-map before.numbers suc in omega (arith, before.counted, size, sum, here);
    }
      where
        forth : (before : AreSoMany (Passes p xs d) (count_by p xs)) (v : ℕ) → Passes p (x ∷ xs) d v → Contains (0 ∷ map suc before.numbers) v
        forth before zero h = (0, omega arith, refl)
        forth before (suc v) h = contains-more 0 (map suc before.numbers) (suc v) (shift before.numbers v ((before.exactly v).1 (omega (arith, h.0), h.1)))
    by false is before sum = record {
      numbers = map suc before.numbers;
      exactly = λ v. (back before.numbers (λ u. (before.exactly u).0) v, forth before v);
      once = shift-apart before.numbers before.once;
      counted = let here : ◌≡◌ {A = ℕ} (cond (p x) 1 0) 0 = ap (λ b. cond b 1 0) is in let size = length-map before.numbers suc in omega (arith, before.counted, size, sum, here);
    }
      where
        forth : (before : AreSoMany (Passes p xs d) (count_by p xs)) (v : ℕ) → Passes p (x ∷ xs) d v → Contains (map suc before.numbers) v
        forth before zero h = absurd (false≢true (sym is ∙ h.1))
        forth before (suc v) h = shift before.numbers v ((before.exactly v).1 (omega (arith, h.0), h.1))

class-same : (c : PoolClass) (d : Class) → same_class (class_served c) d ≡ true → d ≡ class_served c
class-same pool.Regular Regular h = refl
class-same pool.Regular System h = absurd (false≢true h)
class-same pool.Regular (Pinned v) h = absurd (false≢true h)
class-same pool.System System h = refl
class-same pool.System Regular h = absurd (false≢true h)
class-same pool.System (Pinned v) h = absurd (false≢true h)

same-class : (c : PoolClass) (d : Class) → d ≡ class_served c → same_class (class_served c) d ≡ true
same-class pool.Regular d e = ap (same_class Regular) e
same-class pool.System d e = ap (same_class System) e

-- the numbers of a pool are numbers that an account may have
pool-small : (a : Accounts) (c : PoolClass) (v : ℕ) → in_pool a (class_served c) v ≡ true → v < 2 ^ 32
pool-small a pool.Regular v h = let id = leb-true v 4294967294 (and_parts _ _ (and_parts _ _ h).0).0 in omega (arith, id)
pool-small a pool.System v h = let id = leb-true v 4294967294 (and_parts _ _ (and_parts _ _ h).0).0 in omega (arith, id)

have-many : (a : Accounts) (c : PoolClass) → HaveSoMany a (class_served c) (names_in a (class_served c)) (pool_size a (class_served c))
have-many a c = record {
  of_class = many-such (Passes (λ n. same_class (class_served c) (class_of a.pins n)) a.names no_account) _ _ _
      (λ i h. (h.0, class-same c (class_at a i) h.1)) (λ i h. (h.0, same-class c (class_at a i) h.1)) refl
      (passing-many (λ n. same_class (class_served c) (class_of a.pins n)) a.names no_account);
  in_its_pool = many-such (λ v. (v < 2 ^ 32) × (in_pool a (class_served c) v ≡ true)) _ _ _ (λ v h. h.1) (λ v h. (pool-small a c v h, h)) refl
      (below-many (in_pool a (class_served c)) (2 ^ 32));
}

-- ---- the faults of a join

-- what a fault of numbers says
abbrev Says : Which → Accounts → SiteFault → Type 0
Says kind a (PinClash k number first second) = (k ≡ kind) × IsLeastClash (claims a) number first second × NoneApart a × NoneReserved a
Says kind a (PoolTooSmall k class names numbers) =
    (k ≡ kind) × HaveSoMany a (class_served class) names numbers × (numbers < names) × (class ≡ pool.System → IsLargeEnough a Regular)
    × NoneApart a × NoneReserved a × NoneTwice (claims a)
Says kind a f = Unit {0}

pub of_either : {X : Type 0} (P : X → Type 0) (o other : Option X) (x : X) → (o ≡ Some x → P x) → (o ≡ None → other ≡ Some x → P x) → or_else o other ≡ Some x → P x
of_either P None other x one two h = two refl h
of_either P (Some y) other x one two h = one h

pub of_mapped : {X Y : Type 0} (f : X → Y) (o : Option X) (y : Y) (P : Y → Type 0) → ((x : X) → o ≡ Some x → P (f x)) → option_map f o ≡ Some y → P y
of_mapped f None y P so h = absurd (cc)
of_mapped f (Some x) y P so h = let same : f x ≡ y = cc in subst P same (so x refl)

of_first : {X Y : Type 0} (P : Y → Type 0) (f : X → Option Y) (xs : List X) (y : Y) → ((x : X) → f x ≡ Some y → P y) → first_some f xs ≡ Some y → P y
of_first P f [] y so h = absurd (cc)
of_first P f (x ∷ xs) y so h = of_either P (f x) (first_some f xs) y (so x) (λ none e. of_first P f xs y so e) h

pub of_test : {X : Type 0} (P : X → Type 0) (b : Bool) (x y : X) → (b ≡ true → P x) → cond b (Some x) None ≡ Some y → P y
of_test P true x y so h = let same : x ≡ y = cc in subst P same (so refl)
of_test P false x y so h = absurd (cc)

module _ (kind : Which) (a : Accounts) where
  of_clash : (f : SiteFault) → NoneApart a → NoneReserved a → clash kind (claims a) ≡ Some f → Says kind a f
  of_clash f agreed unreserved h =
      of_mapped (λ (d : Clash). PinClash kind d.number d.first d.second) (clash_of (claims a)) f (Says kind a)
      (λ d e. (refl, subst (IsTold (claims a)) e (clash-told (claims a)), agreed, unreserved)) h

  none-twice : clash kind (claims a) ≡ None → NoneTwice (claims a)
  none-twice h =
      let none = none-mapped (λ (d : Clash). PinClash kind d.number d.first d.second) (clash_of (claims a)) h in
      subst (IsTold (claims a)) none (clash-told (claims a))

  of_pool : (c : PoolClass) (f : SiteFault) → (c ≡ pool.System → IsLargeEnough a Regular) → NoneApart a → claim_fault kind a.reserved (claims a) ≡ None → too_small kind a c ≡ Some f → Says kind a f
  of_pool c f after agreed good h =
      let both = none_of_both (first_some (pin_reserved kind a.reserved) (claims a)) (clash kind (claims a)) good in
      of_test (Says kind a) (nat_lt (pool_size a (class_served c)) (names_in a (class_served c))) (PoolTooSmall kind c (names_in a (class_served c)) (pool_size a (class_served c))) f
      (λ less. (refl, have-many a c, ltb-true _ _ less, after, agreed, none-reserved kind a both.0, none-twice both.1)) h

  large : too_small kind a pool.Regular ≡ None → IsLargeEnough a Regular
  large h = (names_in a Regular, pool_size a Regular, have-many a pool.Regular, is-enough kind a pool.Regular h)

  said : (f : SiteFault) → refusal kind a ≡ Some f → Says kind a f
  said f =
      of_either (Says kind a) (first_some (disagrees kind a.hosts a.pins) a.names) _ f
      (of_first (Says kind a) (disagrees kind a.hosts a.pins) a.names f (λ n. of_mapped _ (disagreement (sources a.pins n)) f (Says kind a) (λ d e. tt)))
      (λ none. of_either (Says kind a) (claim_fault kind a.reserved (claims a)) _ f
      (of_either (Says kind a) (first_some (pin_reserved kind a.reserved) (claims a)) (clash kind (claims a)) f
      (of_first (Says kind a) (pin_reserved kind a.reserved) (claims a) f (λ p. of_mapped _ (reserver a.reserved p.number) f (Says kind a) (λ r e. tt)))
      (λ other. of_clash f (none-apart kind a none) (none-reserved kind a other)))
      (λ good. of_either (Says kind a) (too_small kind a pool.Regular) (too_small kind a pool.System) f
      (of_pool pool.Regular f (λ e. absurd (cc)) (none-apart kind a none) good)
      (λ enough. of_pool pool.System f (λ e. large enough) (none-apart kind a none) good)))

told : (o : Option SiteFault) (a : Accounts) (f : SiteFault) → unless o a ≡ Err f → o ≡ Some f
told None a f h = absurd (cc)
told (Some g) a f h = let same : g ≡ f = cc in ap (λ (x : SiteFault). Some x) same

pub clashes_are_there : ClashesAreThere
clashes_are_there kind k a number first second h = said kind a (PinClash k number first second) (told (refusal kind a) a _ h)

pub small_pools_are_there : SmallPoolsAreThere
small_pools_are_there kind k a class names numbers h = said kind a (PoolTooSmall k class names numbers) (told (refusal kind a) a _ h)
