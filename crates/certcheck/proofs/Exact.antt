-- No fault is found exactly where the certificate is certified.
use Rattle.std.proofs.Common.{◌≡◌, ◌≢◌, ℕ, zero, suc, ◌+◌, ◌<◌, ◌≤◌, ◌^◌, Bool, true, false, not, ◌&&◌, eqb, ltb, List, [], ◌∷◌, ◌++◌, map, length, get_or, Option, Some, None, refl, sym, ap, ◌∙◌, ⊎_elim, arith, subst}
use Rattle.std.specs.Option.{option_map}
use Rattle.std.specs.List.{filter, count_by}
use Rattle.std.specs.Str.{bytes_eq}
use Rattle.std.specs.Ordering.{nat_cmp, is_lt}
use Rattle.std.specs.Cmp.Lexicographic.{slice_cmp}
use Rattle.std.proofs.lemmas.List.{length-map, get_or-map, get_or_default}
use Rattle.std.proofs.lemmas.Bool.{cases_Bool, cases_lt, cond-true, cond-false, and_parts, eqb-true, eq-eqb, ltb-true, ltb-false, le-ltb, false_from_ne_true, false≢true, not-false}
use Rattle.idtext.specs.First.{or_else}
use Rattle.hosts_join.specs.declared.Which.{Which}
use Rattle.hosts_join.specs.declared.Class.{Class}
use Rattle.hosts_join.specs.declared.Class.TheVariants.{Pinned, Regular, System}
use Rattle.hosts_join.specs.Accounts.{Account, Accounts, place_of, no_account}
use Rattle.hosts_join.specs.Rules.{is_name, in_pool, first_some}
use Rattle.hosts_join.specs.Rules.{account, class_at}
use Rattle.hosts_join.specs.Lawful.{AreLawfulAccounts}
use Rattle.ownership.specs.Mappings.{IsAdmissible, MayHave}
use Rattle.ownership.specs.Potentials.{potential_at, potential_sum, value_at}
use Rattle.certcheck.specs.Certificate.{Row, Side, IsSide}
use Rattle.certcheck.specs.declared.fault.CheckFault.TheVariants.{NameMissing, NumberTwice, OutsidePool, PinBroken, NotCovered, SumsDiffer}
use Rattle.certcheck.specs.Check.{weight_by, lesser, least_name, missing, repeated, outside, broken, uncovered, uncovered_at, uncovered_in, is_uncovered, is_outside, breaks_pin, passes, is_row_outside, row_breaks_pin, is_listed, mapping_of, potentials_of, differ, sums_differ, kind_fault}
use Rattle.certcheck.proofs.Order.{least_name-append, eq_itself, differ as differ_names}
use Rattle.certcheck.proofs.Least.{least_below-none, least_below_none_says, none_both}
use Rattle.certcheck.proofs.Spots.{Passing, passing_any}
use Rattle.certcheck.proofs.Covers.{pool_id}
use Rattle.certcheck.proofs.Indices.{row, blank, any_from, same_names, HasRow, HasIndex, index_found, row_at_index, index_of_row, find_none_says, find_none_from}
use Rattle.certcheck.proofs.Faults.{fault_is, no_difference}
use Rattle.certcheck.proofs.Twice.{count_two, two_counted}

-- 1. Names

some_least : (n : List ℕ) (o : Option (List ℕ)) → lesser (Some n) o ≡ None → ⊥
some_least n None h = absurd (cc)
some_least n (Some m) h =
    ⊎_elim
    (λ (e : is_lt (slice_cmp nat_cmp m n) ≡ true). let off : Some m ≡ None = sym (cond-true _ (Some m) (Some n) e) ∙ h in absurd (cc))
    (λ (e : is_lt (slice_cmp nat_cmp m n) ≡ false). let off : Some n ≡ None = sym (cond-false _ (Some m) (Some n) e) ∙ h in absurd (cc))
    (cases_Bool (is_lt (slice_cmp nat_cmp m n)))

-- no least name, no name
no_least : (ns : List (List ℕ)) → least_name ns ≡ None → ns ≡ []
unfolding least_name
no_least [] h = refl
no_least (n ∷ ns) h = absurd (some_least n (least_name ns) h)

none_of_two : (x y : Option (List ℕ)) → lesser x y ≡ None → (x ≡ None) × (y ≡ None)
none_of_two None y h = (refl, h)
none_of_two (Some n) y h = absurd (some_least n y h)

-- a filter that keeps nothing
kept_none : (p : List ℕ → Bool) (ns : List (List ℕ)) → filter p ns ≡ [] → (i : ℕ) (d : List ℕ) → i < length ns → p (get_or ns i d) ≡ false
kept_none p [] h i d l = absurd (omega arith)
kept_none p (n ∷ ns) h i d l =
    ⊎_elim
    (λ (e : p n ≡ true). let off : n ∷ filter p ns ≡ [] = sym (cond-true (p n) (n ∷ filter p ns) (filter p ns) e) ∙ h in absurd (cc))
    (λ (e : p n ≡ false). none_after p n ns e d (λ k m. kept_none p ns (sym (cond-false (p n) (n ∷ filter p ns) (filter p ns) e) ∙ h) k d m) i l)
    (cases_Bool (p n))
  where
    none_after : (p : List ℕ → Bool) (n : List ℕ) (ns : List (List ℕ)) → p n ≡ false → (d : List ℕ) → ((k : ℕ) → k < length ns → p (get_or ns k d) ≡ false) → (i : ℕ) → i < length (n ∷ ns) → p (get_or (n ∷ ns) i d) ≡ false
    none_after p n ns e d rest zero l = e
    none_after p n ns e d rest (suc i) l = rest i (omega arith)

keeps_none : (p : List ℕ → Bool) (ns : List (List ℕ)) → ((i : ℕ) (d : List ℕ) → i < length ns → p (get_or ns i d) ≡ false) → filter p ns ≡ []
keeps_none p [] none = refl
keeps_none p (n ∷ ns) none = cond-false _ _ _ (none 0 n (omega arith)) ∙ keeps_none p ns (λ i d l. none (suc i) d (omega arith))

pub names_exact : (a : Accounts) (rows : List Row) → missing a rows ≡ None → (m : List ℕ) → is_name a.names m ≡ is_listed rows m
names_exact a rows h m =
    let unknown = λ (n : List ℕ). not (is_name a.names n) in
    let unlisted = λ (n : List ℕ). not (is_listed rows n) in
    let both = none_of_two _ _ (sym (least_name-append (filter unknown (map (λ (r : Row). r.name) rows)) (filter unlisted (map (λ (x : Account). x.name) a.names))) ∙ h) in
    let one = kept_none unknown (map (λ (r : Row). r.name) rows) (no_least _ both.0) in
    let two = kept_none unlisted (map (λ (x : Account). x.name) a.names) (no_least _ both.1) in
    ⊎_elim
    (λ (e : is_name a.names m ≡ true).
    let there : Passing (λ (x : Account). bytes_eq m x.name) a.names = passing_any (λ (x : Account). bytes_eq m x.name) a.names e in
    let same : m ≡ (get_or a.names there.0 no_account).name = same_names m _ (there.2 no_account) in
    let at : get_or (map (λ (x : Account). x.name) a.names) there.0 [] ≡ (get_or a.names there.0 no_account).name = get_or-map (λ (x : Account). x.name) a.names there.0 no_account [] there.1 in
    let listed = not-false _ (two there.0 [] (rw (length-map a.names (λ (x : Account). x.name)) there.1)) in
    e ∙ sym (ap (is_listed rows) (same ∙ sym at) ∙ listed))
    (λ (e : is_name a.names m ≡ false).
    e ∙ sym (false_from_ne_true (is_listed rows m) (λ f.
    let there : Passing (λ (r : Row). bytes_eq m r.name) rows = passing_any (λ (r : Row). bytes_eq m r.name) rows f in
    let same : m ≡ (row rows there.0).name = same_names m _ (there.2 blank) in
    let at : get_or (map (λ (r : Row). r.name) rows) there.0 [] ≡ (row rows there.0).name = get_or-map (λ (r : Row). r.name) rows there.0 blank [] there.1 in
    let known = not-false _ (one there.0 [] (rw (length-map rows (λ (r : Row). r.name)) there.1)) in
    false≢true (sym e ∙ ap (is_name a.names) (same ∙ sym at) ∙ known))))
    (cases_Bool (is_name a.names m))

pub none_missing : (a : Accounts) (rows : List Row) → ((m : List ℕ) → is_name a.names m ≡ is_listed rows m) → missing a rows ≡ None
unfolding least_name
none_missing a rows exact =
    let unknown = λ (n : List ℕ). not (is_name a.names n) in
    let unlisted = λ (n : List ℕ). not (is_listed rows n) in
    let one : filter unknown (map (λ (r : Row). r.name) rows) ≡ [] = keeps_none unknown (map (λ (r : Row). r.name) rows) (λ i d l.
    let l' : i < length rows = rw (← length-map rows (λ (r : Row). r.name)) l in
    let at = get_or-map (λ (r : Row). r.name) rows i blank d l' in
    let m = (row rows i).name in
    ap unknown at ∙ ap not (exact m ∙ any_from (λ (r : Row). bytes_eq m r.name) rows i blank l' (eq_itself m))) in
    let two : filter unlisted (map (λ (x : Account). x.name) a.names) ≡ [] = keeps_none unlisted (map (λ (x : Account). x.name) a.names) (λ i d l.
    let l' : i < length a.names = rw (← length-map a.names (λ (x : Account). x.name)) l in
    let at = get_or-map (λ (x : Account). x.name) a.names i no_account d l' in
    let m = (account a i).name in
    ap unlisted at ∙ ap not (sym (exact m) ∙ any_from (λ (x : Account). bytes_eq m x.name) a.names i no_account l' (eq_itself m))) in
    ap (λ ns. least_name (ns ++ filter unlisted (map (λ (x : Account). x.name) a.names))) one ∙ ap (λ ns. least_name ns) two

-- 2. Pools and pins

may_from : (a : Accounts) (c : Class) (v : ℕ) → is_outside a c v ≡ false → breaks_pin c v ≡ false → MayHave a c v
may_from a (Pinned p) v o b = eqb-true v p (not-false _ b)
may_from a Regular v o b = not-false _ o
may_from a System v o b = not-false _ o

not_outside : (a : Accounts) (c : Class) (v : ℕ) → MayHave a c v → is_outside a c v ≡ false
not_outside a (Pinned p) v may = refl
not_outside a Regular v may = ap not may
not_outside a System v may = ap not may

not_broken : (a : Accounts) (c : Class) (v : ℕ) → MayHave a c v → breaks_pin c v ≡ false
not_broken a (Pinned p) v may = ap not (eq-eqb v p may)
not_broken a Regular v may = refl
not_broken a System v may = refl

-- 3. Numbers

-- no two rows have one number
no_repeat : (rows : List Row) → repeated rows ≡ None → (i j : ℕ) → i < j → j < length rows → (row rows j).number < 2 ^ 32 → (row rows i).number ≡ (row rows j).number → ⊥
no_repeat rows h i j l m fits same =
    let v = (row rows j).number in
    let few = ltb-false 1 _ (least_below_none_says (λ u. ltb 1 (count_by (λ (r : Row). eqb r.number u) rows)) (2 ^ 32) h v fits) in
    let two = count_two (λ (r : Row). eqb r.number v) rows i j blank l m (eq-eqb _ _ same) (eq-eqb v v refl) in
    omega (arith, few, two)

none_repeated : (rows : List Row) → ((i j : ℕ) → i < j → j < length rows → (row rows i).number ≢ (row rows j).number) → repeated rows ≡ None
none_repeated rows apart = least_below-none _ (2 ^ 32) (λ v l. le-ltb 1 _
    (⊎_elim
    (λ (many : 1 < count_by (λ (r : Row). eqb r.number v) rows).
    let two = two_counted (λ (r : Row). eqb r.number v) rows many in
    absurd (apart two.0 two.1 two.2 two.3 (eqb-true _ v (two.4 blank) ∙ sym (eqb-true _ v (two.5 blank)))))
    (λ (few : count_by (λ (r : Row). eqb r.number v) rows ≤ 1). few)
    (cases_lt 1 (count_by (λ (r : Row). eqb r.number v) rows))))

-- 4. Coverage

map_none : {X Y : Type 0} (f : X → Y) (o : Option X) → option_map f o ≡ None → o ≡ None
map_none f None h = refl
map_none f (Some x) h = absurd (cc)

first_none_says : {X Z : Type 0} (f : X → Option Z) (xs : List X) → first_some f xs ≡ None → (i : ℕ) (d : X) → i < length xs → f (get_or xs i d) ≡ None
first_none_says f [] h i d l = absurd (omega arith)
first_none_says f (x ∷ xs) h zero d l = (none_both (f x) (first_some f xs) h).0
first_none_says f (x ∷ xs) h (suc i) d l = first_none_says f xs (none_both (f x) (first_some f xs) h).1 i d (omega arith)

first_none_from : {X Z : Type 0} (f : X → Option Z) (xs : List X) → ((i : ℕ) (d : X) → i < length xs → f (get_or xs i d) ≡ None) → first_some f xs ≡ None
first_none_from f [] none = refl
first_none_from f (x ∷ xs) none = ap (λ o. or_else o (first_some f xs)) (none 0 x (omega arith)) ∙ first_none_from f xs (λ i d l. none (suc i) d (omega arith))

covered_from : (a : Accounts) (w : ℕ → ℕ → ℕ) (z : List (ℕ × ℕ)) (n y v : ℕ) → is_uncovered a w z n y v ≡ false → in_pool a (class_at a n) v ≡ true → w n v ≤ y + value_at z v
covered_from a w z n y v h in' = ltb-false (y + value_at z v) (w n v) (sym (ap (λ b. b && ltb (y + value_at z v) (w n v)) in') ∙ h)

not_uncovered : (a : Accounts) (w : ℕ → ℕ → ℕ) (z : List (ℕ × ℕ)) (n y v : ℕ) → (in_pool a (class_at a n) v ≡ true → w n v ≤ y + value_at z v) → is_uncovered a w z n y v ≡ false
not_uncovered a w z n y v cover = false_from_ne_true _ (λ e.
    let parts = and_parts (in_pool a (class_at a n) v) (ltb (y + value_at z v) (w n v)) e in
    let less = ltb-true _ _ parts.1 in
    let most = cover parts.0 in
    absurd (omega (arith, less, most)))

uncovered_none : (a : Accounts) (w : ℕ → ℕ → ℕ) (z : List (ℕ × ℕ)) (n y : ℕ) → uncovered_at a w z n y ≡ None → (v : ℕ) → v < 2 ^ 32 → is_uncovered a w z n y v ≡ false
unfolding uncovered_at
uncovered_none a w z n y h v l = least_below_none_says (is_uncovered a w z n y) (2 ^ 32) h v l

none_uncovered : (a : Accounts) (w : ℕ → ℕ → ℕ) (z : List (ℕ × ℕ)) (n y : ℕ) → ((v : ℕ) → is_uncovered a w z n y v ≡ false) → uncovered_at a w z n y ≡ None
unfolding uncovered_at
none_uncovered a w z n y none = least_below-none (is_uncovered a w z n y) (2 ^ 32) (λ v l. none v)

-- 5. All together

-- what no fault means
pub record IsCertifiedBy (a : Accounts) (w : ℕ → ℕ → ℕ) (s : Side) : Type 0 where
  pub names : (n : List ℕ) → is_name a.names n ≡ is_listed s.rows n
  pub admissible : IsAdmissible a (mapping_of a s.rows)
  pub cover : (i v : ℕ) → i < length a.names → in_pool a (class_at a i) v ≡ true → w i v ≤ potential_at (potentials_of a s.rows) i + value_at s.z v
  pub equal : potential_sum (potentials_of a s.rows) s.z ≡ weight_by a w (mapping_of a s.rows)

-- what each step found, where there was no fault
record Clear (a : Accounts) (w : ℕ → ℕ → ℕ) (s : Side) : Type 0 where
  pub m : missing a s.rows ≡ None
  pub r : repeated s.rows ≡ None
  pub o : outside a s.rows ≡ None
  pub b : broken a s.rows ≡ None
  pub u : uncovered a w s ≡ None
  pub d : potential_sum (potentials_of a s.rows) s.z ≡ weight_by a w (mapping_of a s.rows)

sums_from : (kind : Which) (total weighs : ℕ) → differ kind total weighs ≡ None → total ≡ weighs
sums_from kind total weighs h =
    ⊎_elim
    (λ (e : eqb total weighs ≡ true). eqb-true total weighs e)
    (λ (e : eqb total weighs ≡ false). let off : Some (SumsDiffer kind total weighs) ≡ None = sym (cond-false (eqb total weighs) None (Some (SumsDiffer kind total weighs)) e) ∙ h in absurd (cc))
    (cases_Bool (eqb total weighs))

clear_from : (kind : Which) (a : Accounts) (w : ℕ → ℕ → ℕ) (s : Side) → kind_fault kind a w s ≡ None → Clear a w s
unfolding kind_fault
clear_from kind a w s h =
    let one = none_both (option_map (λ n. NameMissing kind n) (missing a s.rows)) _ h in
    let two = none_both (option_map (λ v. NumberTwice kind v) (repeated s.rows)) _ one.1 in
    let three = none_both (option_map (λ (r : Row). OutsidePool kind r.name) (outside a s.rows)) _ two.1 in
    let four = none_both (option_map (λ (r : Row). PinBroken kind r.name) (broken a s.rows)) _ three.1 in
    let five = none_both (option_map (λ (p : List ℕ × ℕ). NotCovered kind p.0 p.1) (uncovered a w s)) (sums_differ kind a w s) four.1 in
    record {
      m = map_none _ _ one.0;
      r = map_none _ _ two.0;
      o = map_none _ _ three.0;
      b = map_none _ _ four.0;
      u = map_none _ _ five.0;
      d = sums_from kind _ _ five.1;
    }

-- no fault: the certificate is certified
pub certified_from : (kind : Which) (a : Accounts) (w : ℕ → ℕ → ℕ) (s : Side) → AreLawfulAccounts a → IsSide s → kind_fault kind a w s ≡ None → IsCertifiedBy a w s
certified_from kind a w s are side h =
    let clear = clear_from kind a w s h in
    let exact = names_exact a s.rows clear.m in
    let at : (n : ℕ) → n < length a.names → HasRow a s.rows n = λ n l. row_at_index a s.rows n side.names_ascend exact l in
    let place : (i : ℕ) → i < length s.rows → HasIndex a s.rows i = λ i l. index_of_row a s.rows i are side.names_ascend exact l in
    let back : (n : ℕ) (l : n < length a.names) → place_of a.names (row s.rows (at n l).at).name ≡ Some n = λ n l. index_found a n (row s.rows (at n l).at).name are l (sym (at n l).name) in
    record {
      names = exact;
      admissible = record {
        len = length-map a.names _;
        lawful = λ n l.
            let r = at n l in
            let P : ℕ → Type 0 = λ v. MayHave a (class_at a n) v in
            let o = find_none_says (is_row_outside a) s.rows clear.o r.at blank r.within in
            let b = find_none_says (row_breaks_pin a) s.rows clear.b r.at blank r.within in
            subst P (sym r.number) (may_from a (class_at a n) (row s.rows r.at).number
            (sym (ap (passes (λ k. is_outside a (class_at a k) (row s.rows r.at).number)) (back n l)) ∙ o)
            (sym (ap (passes (λ k. breaks_pin (class_at a k) (row s.rows r.at).number)) (back n l)) ∙ b));
        distinct = λ i j l m e.
            let mapped : length (mapping_of a s.rows) ≡ length a.names = length-map a.names _ in
            let li : i < length a.names = omega (arith, l, mapped) in
            let lj : j < length a.names = omega (arith, m, mapped) in
            let r = at i li in
            let q = at j lj in
            let same : (row s.rows r.at).number ≡ (row s.rows q.at).number = sym r.number ∙ e ∙ q.number in
            let fits : (row s.rows r.at).number < 2 ^ 32 = (let id = (side.rows_lawful r.at blank r.within).number in omega (arith, id)) in
            let fits' : (row s.rows q.at).number < 2 ^ 32 = (let id = (side.rows_lawful q.at blank q.within).number in omega (arith, id)) in
            ⊎_elim
            (λ (less : r.at < q.at). absurd (no_repeat s.rows clear.r r.at q.at less q.within fits' same))
            (λ (more : q.at ≤ r.at).
            ⊎_elim
            (λ (less : q.at < r.at). absurd (no_repeat s.rows clear.r q.at r.at less r.within fits (sym same)))
            (λ (most : r.at ≤ q.at).
            let equal : r.at ≡ q.at = omega arith in
            are.names_differ i j li lj (sym r.name ∙ ap (λ k. (row s.rows k).name) equal ∙ q.name))
            (cases_lt q.at r.at))
            (cases_lt r.at q.at);
      };
      cover = λ n v l in'.
          let r = at n l in
          let u = first_none_says (λ (x : Row). uncovered_in a w s.z x (place_of a.names x.name)) s.rows clear.u r.at blank r.within in
          let here : uncovered_in a w s.z (row s.rows r.at) (Some n) ≡ None = sym (ap (uncovered_in a w s.z (row s.rows r.at)) (back n l)) ∙ u in
          let none = uncovered_none a w s.z n (row s.rows r.at).y (map_none _ _ here) v (let id = pool_id a (class_at a n) v in' in omega (arith, id)) in
          let most = covered_from a w s.z n (row s.rows r.at).y v none in' in
          omega (arith, most, r.y);
      equal = clear.d;
    }

-- certified: no fault
pub no_fault_from : (kind : Which) (a : Accounts) (w : ℕ → ℕ → ℕ) (s : Side) → AreLawfulAccounts a → IsSide s → IsCertifiedBy a w s → kind_fault kind a w s ≡ None
no_fault_from kind a w s are side certified =
    let place : (i : ℕ) → i < length s.rows → HasIndex a s.rows i = λ i l. index_of_row a s.rows i are side.names_ascend certified.names l in
    let may : (i : ℕ) (l : i < length s.rows) → MayHave a (class_at a (place i l).at) (row s.rows i).number = λ i l.
    (let P : ℕ → Type 0 = λ v. MayHave a (class_at a (place i l).at) v in subst P (place i l).number (certified.admissible.lawful (place i l).at (place i l).within)) in
    let o : outside a s.rows ≡ None = find_none_from (is_row_outside a) s.rows (λ i d l.
    ap (is_row_outside a) (get_or_default s.rows i d blank l) ∙ ap (passes (λ k. is_outside a (class_at a k) (row s.rows i).number)) (place i l).index ∙ not_outside a _ _ (may i l)) in
    let b : broken a s.rows ≡ None = find_none_from (row_breaks_pin a) s.rows (λ i d l.
    ap (row_breaks_pin a) (get_or_default s.rows i d blank l) ∙ ap (passes (λ k. breaks_pin (class_at a k) (row s.rows i).number)) (place i l).index ∙ not_broken a _ _ (may i l)) in
    let r : repeated s.rows ≡ None = none_repeated s.rows (λ i j l m e.
    let p = place i (omega (arith, l, m)) in
    let q = place j m in
    let same : get_or (mapping_of a s.rows) p.at 0 ≡ get_or (mapping_of a s.rows) q.at 0 = p.number ∙ e ∙ sym q.number in
    let mapped : length (mapping_of a s.rows) ≡ length a.names = certified.admissible.len in
    ⊎_elim
    (λ (less : p.at < q.at). absurd (let e' = certified.admissible.distinct p.at q.at (omega (arith, p.within, mapped)) (omega (arith, q.within, mapped)) same in omega (arith, e', less)))
    (λ (more : q.at ≤ p.at).
    ⊎_elim
    (λ (less : q.at < p.at). absurd (let e' = certified.admissible.distinct p.at q.at (omega (arith, p.within, mapped)) (omega (arith, q.within, mapped)) same in omega (arith, e', less)))
    (λ (most : p.at ≤ q.at).
    let equal : p.at ≡ q.at = omega arith in
    differ_names (row s.rows i).name (row s.rows j).name (side.names_ascend i j blank l m) (sym p.name ∙ ap (λ k. (account a k).name) equal ∙ q.name))
    (cases_lt q.at p.at))
    (cases_lt p.at q.at)) in
    let u : uncovered a w s ≡ None = first_none_from (λ (x : Row). uncovered_in a w s.z x (place_of a.names x.name)) s.rows (λ i d l.
    let p = place i l in
    ap (λ (x : Row). uncovered_in a w s.z x (place_of a.names x.name)) (get_or_default s.rows i d blank l)
    ∙ ap (uncovered_in a w s.z (row s.rows i)) p.index
    ∙ ap (option_map (λ (v : ℕ). ((row s.rows i).name, v))) (none_uncovered a w s.z p.at (row s.rows i).y (λ v. not_uncovered a w s.z p.at (row s.rows i).y v (λ in'. let most = certified.cover p.at v p.within in' in omega (arith, most, p.y))))) in
    fault_is kind a w s None None None None None None (sym (none_missing a s.rows certified.names)) (sym r) (ap (option_map (λ (x : Row). x.name)) (sym o)) (ap (option_map (λ (x : Row). x.name)) (sym b)) (sym u) (no_difference kind _ _ certified.equal)
