-- The fault that a refused certificate is told is the first of those that are there.
use Rattle.std.proofs.Common.{◌≡◌, ◌≢◌, ◌⊎◌, ℕ, zero, suc, ◌+◌, ◌<◌, ◌≤◌, ◌^◌, Bool, true, false, not, ◌&&◌, cond, eqb, ltb, List, [], ◌∷◌, ◌++◌, length, map, filter, count_by, find, get_or, Contains, Option, Some, None, refl, sym, ap, ◌∙◌, inl, inr, subst, arith, bytes_eq}
use Rattle.std.specs.Option.{MatchOption, option_map}
use Rattle.std.specs.Ordering.{is_lt, nat_cmp}
use Rattle.std.specs.Cmp.Lexicographic.{slice_cmp}
use Rattle.std.proofs.lemmas.Bool.{cases_Bool, cases_lt, eq-eqb, ne_eqb, lt-ltb, false_from_ne_true, false≢true}
use Rattle.std.proofs.lemmas.List.{get_or_default}
use Rattle.std.proofs.lemmas.List.Elements.{Contains-append_left, Contains-append_right}
use Rattle.idtext.specs.First.{or_else}
use Rattle.hosts_join.specs.declared.Which.{Which}
use Rattle.hosts_join.specs.declared.Which.TheVariants.{User, Group}
use Rattle.hosts_join.specs.Accounts.{Account, Accounts, no_account, place_of}
use Rattle.hosts_join.specs.Lawful.{AreLawfulAccounts}
use Rattle.hosts_join.specs.Rules.{account, class_at, first_some, in_pool, is_name}
use Rattle.ownership.specs.Files.{File, by_group, by_user}
use Rattle.ownership.specs.Potentials.{potential_sum, value_at}
use Rattle.ownership.specs.Weights.{weight}
use Rattle.certcheck.specs.declared.fault.CheckFault.{CheckFault}
use Rattle.certcheck.specs.declared.fault.CheckFault.TheVariants.{Memory, NameMissing, NumberTwice, OutsidePool, PinBroken, NotCovered, SumsDiffer}
use Rattle.certcheck.specs.Certificate.{ComesBefore, IsSide, Row, Side}
use Rattle.certcheck.specs.Check.{breaks_pin, broken, differ, is_listed, is_outside, is_row_outside, is_uncovered, kind_fault, least_below, least_name, lesser, mapping_of, missing, outside, passes, potentials_of, repeated, row_breaks_pin, sums_differ, uncovered, uncovered_at, uncovered_in, weight_by}
use Rattle.certcheck.specs.FaultOrder.{FirstFaultIsTold, HasNoFault, IsFirst, StandsBefore}
use Rattle.certcheck.specs.Refused.{HasRow, IsInOne, IsNotCovered, IsOfCertificate, IsOfSite, IsOutsidePool, IsPinBroken, IsThere, IsTwice, DoDiffer}
use Rattle.certcheck.proofs.Covers.{pool_id}
use Rattle.certcheck.proofs.Faults.{difference}
use Rattle.certcheck.proofs.Found.{at_index, from_either}
use Rattle.certcheck.proofs.Indices.{blank, index_found, row, same_names}
use Rattle.certcheck.proofs.Order.{before_trans, differ as differ_names, is_less, le_trans, lt_trans, not_itself}
use Rattle.certcheck.proofs.Refused.{fault_there, refused}
use Rattle.certcheck.proofs.Spots.{passing_any}
use Rattle.certcheck.proofs.Twice.{count_two}

-- ---- searches find what is there, or what comes before it

abbrev lt : List ℕ → List ℕ → Bool
lt n m = is_lt (slice_cmp nat_cmp n m)

lt_itself : (n : List ℕ) → lt n n ≡ false
lt_itself n = false_from_ne_true (lt n n) (λ e. not_itself n (is_less (slice_cmp nat_cmp n n) e))

-- one more name that may be the least
least_with : (n x : List ℕ) (o : Option (List ℕ)) → (n ≡ x) ⊎ MatchOption o ⊥ (λ m. lt n m ≡ false) → MatchOption (lesser (Some x) o) ⊥ (λ m. lt n m ≡ false)
least_with n x None (inl e) = let P : List ℕ → Type 0 = λ k. lt n k ≡ false in subst P e (lt_itself n)
least_with n x None (inr h) = absurd h
least_with n x (Some k) (inl e) = elim (cases_Bool (lt k x)) [
  | inl t ↦ rw t (false_from_ne_true (lt n k) (λ f. let g : lt x k ≡ true = subst (λ m. lt m k ≡ true) e f in false≢true (sym (lt_itself x) ∙ lt_trans x k x g t)))
  | inr f ↦ rw f (let P : List ℕ → Type 0 = λ m. lt n m ≡ false in subst P e (lt_itself n))
]
least_with n x (Some k) (inr h) = elim (cases_Bool (lt k x)) [
  | inl t ↦ rw t h
  | inr f ↦ rw f (le_trans x k n f h)
]

no_lesser : (ns : List (List ℕ)) (n : List ℕ) → Contains ns n → MatchOption (least_name ns) ⊥ (λ m. lt n m ≡ false)
unfolding least_name
no_lesser [] n there = absurd (omega (arith, there.1))
no_lesser (x ∷ ns) n (zero, l, e) = least_with n x (least_name ns) (inl (sym e))
no_lesser (x ∷ ns) n (suc k, l, e) = least_with n x (least_name ns) (inr (no_lesser ns n (k, omega (arith, l), e)))

-- the least number that passes
below-lt : (test : ℕ → Bool) (n v : ℕ) → least_below test n ≡ Some v → v < n
unfolding least_below
below-lt test zero v h = absurd (cc)
below-lt test (suc n) v h = from_either (λ u. u < suc n) (least_below test n) (cond (test n) (Some n) None) v (λ e. let l = below-lt test n v e in omega (arith, l)) (λ e. last (test n) e) h
  where
    last : (b : Bool) → cond b (Some n) None ≡ Some v → v < suc n
    last true e = let same : n ≡ v = cc in omega (arith, same)
    last false e = absurd (cc)

either : {X : Type 0} (P : X → Type 0) (o x : Option X) → MatchOption o ⊥ P → MatchOption (or_else o x) ⊥ P
either P None x h = absurd h
either P (Some y) x h = h

no_less : (test : ℕ → Bool) (n v : ℕ) → v < n → test v ≡ true → MatchOption (least_below test n) ⊥ (λ u. v < u → ⊥)
unfolding least_below
no_less test zero v l t = absurd (omega (arith, l))
no_less test (suc n) v l t = elim (cases_lt v n) [
  | inl low ↦ either (λ u. v < u → ⊥) (least_below test n) (cond (test n) (Some n) None) (no_less test n v low t)
  | inr high ↦
      let same : v ≡ n = omega (arith, l, high) in
      let here : test n ≡ true = ap test (sym same) ∙ t in
      rw here (by (least_below test n) refl same)
]
  where
    by : (o : Option ℕ) → least_below test n ≡ o → v ≡ n → MatchOption (or_else o (Some n)) ⊥ (λ u. v < u → ⊥)
    by None is same = λ h. absurd (omega (arith, h, same))
    by (Some w) is same = λ h. let low = below-lt test n w is in absurd (omega (arith, low, h, same))

-- the first that passes, of which each up to the index has the property
found_by : {X : Type 0} (test : X → Bool) (P : X → Type 0) (xs : List X) (i : ℕ) (d : X) → i < length xs → ((k : ℕ) → k ≤ i → P (get_or xs k d)) → test (get_or xs i d) ≡ true → MatchOption (find test xs) ⊥ P
found_by test P [] i d l upto t = absurd (omega (arith, l))
found_by test P (x ∷ xs) i d l upto t = by (test x) refl i l upto t (λ j h more u. found_by test P xs j d h more u)
  where
    by : (b : Bool) → test x ≡ b → (i : ℕ) → i < length (x ∷ xs) → ((k : ℕ) → k ≤ i → P (get_or (x ∷ xs) k d)) → test (get_or (x ∷ xs) i d) ≡ true → ((j : ℕ) → j < length xs → ((k : ℕ) → k ≤ j → P (get_or xs k d)) → test (get_or xs j d) ≡ true → MatchOption (find test xs) ⊥ P) → MatchOption (cond b (Some x) (find test xs)) ⊥ P
    by true is i l upto t rest = upto 0 (omega arith)
    by false is zero l upto t rest = absurd (false≢true (sym is ∙ t))
    by false is (suc i) l upto t rest = rest i (omega (arith, l)) (λ k h. upto (suc k) (omega (arith, h))) t

-- the first that is given
given_by : {X Y : Type 0} (f : X → Option Y) (P : Y → Type 0) (xs : List X) (i : ℕ) (d : X) → i < length xs → ((k : ℕ) → k < i → MatchOption (f (get_or xs k d)) (Unit {0}) P) → MatchOption (f (get_or xs i d)) ⊥ P → MatchOption (first_some f xs) ⊥ P
given_by f P [] i d l before here = absurd (omega (arith, l))
given_by f P (x ∷ xs) zero d l before here = either P (f x) (first_some f xs) here
given_by f P (x ∷ xs) (suc i) d l before here = first (f x) (first_some f xs) (before 0 (omega arith)) (given_by f P xs i d (omega (arith, l)) (λ k h. before (suc k) (omega (arith, h))) here)
  where
    first : (o rest : Option _) → MatchOption o (Unit {0}) P → MatchOption rest ⊥ P → MatchOption (or_else o rest) ⊥ P
    first None rest one more = more
    first (Some y) rest one more = one

-- ---- elements of lists

in_map : {X Y : Type 0} (f : X → Y) (xs : List X) (x : X) (y : Y) → Contains xs x → f x ≡ y → Contains (map f xs) y
in_map f [] x y there e = absurd (omega (arith, there.1))
in_map f (z ∷ xs) x y (zero, l, same) e = (0, omega arith, ap f same ∙ e)
in_map f (z ∷ xs) x y (suc k, l, same) e = let more = in_map f xs x y (k, omega (arith, l), same) e in (suc more.0, omega (arith, more.1), more.2)

in_filter : {X : Type 0} (test : X → Bool) (xs : List X) (x : X) → Contains xs x → test x ≡ true → Contains (filter test xs) x
in_filter test [] x there t = absurd (omega (arith, there.1))
in_filter test (y ∷ ys) x (zero, l, same) t = let here : test y ≡ true = ap test same ∙ t in rw here (0, omega arith, same)
in_filter test (y ∷ ys) x (suc k, l, same) t = by (test y) (in_filter test ys x (k, omega (arith, l), same) t)
  where
    by : (b : Bool) → Contains (filter test ys) x → Contains (cond b (y ∷ filter test ys) (filter test ys)) x
    by true more = (suc more.0, omega (arith, more.1), more.2)
    by false more = more

-- ---- rows

-- the index of a row, with what it says
record At (s : Side) (name : List ℕ) (number y : ℕ) : Type 0 where
  pub index : ℕ
  pub within : index < length s.rows
  pub named : (row s.rows index).name ≡ name
  pub numbered : (row s.rows index).number ≡ number
  pub with_y : (row s.rows index).y ≡ y

row_at : (s : Side) (name : List ℕ) (number y : ℕ) → HasRow s name number y → At s name number y
row_at s name number y has =
    let r : Row = record { name = name; number = number; y = y } in
    let is : row s.rows has.0 ≡ r = get_or_default s.rows has.0 blank r has.1 ∙ has.2 in
    record {
      index = has.0;
      within = has.1;
      named = ap (λ (x : Row). x.name) is;
      numbered = ap (λ (x : Row). x.number) is;
      with_y = ap (λ (x : Row). x.y) is;
    }

-- no row up to an index has a later name
not_after : (s : Side) → IsSide s → (k i : ℕ) → k ≤ i → i < length s.rows → ComesBefore (row s.rows i).name (row s.rows k).name → ⊥
not_after s side k i l within before = elim (cases_lt k i) [
  | inl low ↦ not_itself (row s.rows i).name (before_trans (row s.rows i).name (row s.rows k).name (row s.rows i).name before (side.names_ascend k i blank low within))
  | inr high ↦
      let same : i ≡ k = omega (arith, l, high) in
      let P : ℕ → Type 0 = λ j. ComesBefore (row s.rows i).name (row s.rows j).name in
      not_itself (row s.rows i).name (subst P (sym same) before)
]

not_listed : (s : Side) (name : List ℕ) → ¬ IsOfCertificate s name → is_listed s.rows name ≡ false
not_listed s name none = false_from_ne_true (is_listed s.rows name) (λ e.
    let there = passing_any (λ (r : Row). bytes_eq name r.name) s.rows e in
    let same : name ≡ (row s.rows there.0).name = same_names name (row s.rows there.0).name (there.2 blank) in
    let P : List ℕ → Type 0 = λ n. IsOfCertificate s n in
    none (subst P (sym same) ((row s.rows there.0).number, ((row s.rows there.0).y, at_index s.rows there.0 blank there.1))))

not_of_site : (a : Accounts) (name : List ℕ) → ¬ IsOfSite a name → is_name a.names name ≡ false
not_of_site a name none = false_from_ne_true (is_name a.names name) (λ e.
    let there = passing_any (λ (x : Account). bytes_eq name x.name) a.names e in
    none (there.0, (there.1, sym (same_names name (account a there.0).name (there.2 no_account)))))

-- ---- what each search finds, where a fault of its sort is there

module _ (kind : Which) (a : Accounts) (files : List File) (s : Side) (lawful : AreLawfulAccounts a) (side : IsSide s) where
  missing_found : (n : List ℕ) → IsInOne a s n → MatchOption (missing a s.rows) ⊥ (λ m. lt n m ≡ false)
  missing_found n h = no_lesser (filter (λ (m : List ℕ). not (is_name a.names m)) (map (λ (r : Row). r.name) s.rows) ++ filter (λ (m : List ℕ). not (is_listed s.rows m)) (map (λ (x : Account). x.name) a.names)) n (by h)
    where
      by : IsInOne a s n → Contains (filter (λ (m : List ℕ). not (is_name a.names m)) (map (λ (r : Row). r.name) s.rows) ++ filter (λ (m : List ℕ). not (is_listed s.rows m)) (map (λ (x : Account). x.name) a.names)) n
      by (inl one) =
          let i = one.0.0 in
          Contains-append_right _ _ n (in_filter (λ (m : List ℕ). not (is_listed s.rows m)) _ n
          (in_map (λ (x : Account). x.name) a.names (account a i) n (at_index a.names i no_account one.0.1.0) one.0.1.1)
          (ap not (not_listed s n one.1)))
      by (inr one) =
          let at = row_at s n one.0.0 one.0.1.0 one.0.1.1 in
          Contains-append_left _ _ n (in_filter (λ (m : List ℕ). not (is_name a.names m)) _ n
          (in_map (λ (r : Row). r.name) s.rows (row s.rows at.index) n (at_index s.rows at.index blank at.within) at.named)
          (ap not (not_of_site a n one.1)))

  twice_found : (v : ℕ) → IsTwice s v → MatchOption (repeated s.rows) ⊥ (λ u. v < u → ⊥)
  twice_found v h =
      let one = row_at s h.one v h.one_has.0 h.one_has.1 in
      let other = row_at s h.other v h.other_has.0 h.other_has.1 in
      let id = (side.rows_lawful one.index blank one.within).number in
      let fits : v < 2 ^ 32 = omega (arith, id, one.numbered) in
      let test : Row → Bool = λ (r : Row). eqb r.number v in
      no_less (λ u. ltb 1 (count_by (λ (r : Row). eqb r.number u) s.rows)) (2 ^ 32) v fits (lt-ltb 1 _ (elim (cases_lt one.index other.index) [
        | inl less ↦ count_two test s.rows one.index other.index blank less other.within (eq-eqb _ v one.numbered) (eq-eqb _ v other.numbered)
        | inr more ↦ count_two test s.rows other.index one.index blank (omega (arith, more, apart one other h.differ)) one.within (eq-eqb _ v other.numbered) (eq-eqb _ v one.numbered)
      ]))
    where
      apart : {n m : List ℕ} {x y : ℕ} (one : At s n v x) (other : At s m v y) → n ≢ m → one.index ≢ other.index
      apart one other differ same = differ (sym one.named ∙ ap (λ i. (row s.rows i).name) same ∙ other.named)

  -- the first row that passes is that of the name, or of one before it
  by_row : (test : Row → Bool) (name : List ℕ) (i : ℕ) → i < length s.rows → (row s.rows i).name ≡ name → test (row s.rows i) ≡ true → MatchOption (find test s.rows) ⊥ (λ (r : Row). ComesBefore name r.name → ⊥)
  by_row test name i within named passed =
      found_by test (λ (r : Row). ComesBefore name r.name → ⊥) s.rows i blank within
      (λ k l before. let P : List ℕ → Type 0 = λ n. ComesBefore n (row s.rows k).name in not_after s side k i l within (subst P (sym named) before)) passed

  outside_found : (name : List ℕ) → IsOutsidePool a s name → MatchOption (outside a s.rows) ⊥ (λ (r : Row). ComesBefore name r.name → ⊥)
  outside_found name h =
      let at = row_at s name h.number h.has.0 h.has.1 in
      let found = index_found a h.index (row s.rows at.index).name lawful h.named.0 (h.named.1 ∙ sym at.named) in
      by_row (is_row_outside a) name at.index at.within at.named
      (ap (passes (λ i. is_outside a (class_at a i) (row s.rows at.index).number)) found
      ∙ ap (is_outside a (class_at a h.index)) at.numbered
      ∙ ap (λ b. b && not (in_pool a (class_at a h.index) h.number)) h.free ∙ ap not h.outside)

  broken_found : (name : List ℕ) → IsPinBroken a s name → MatchOption (broken a s.rows) ⊥ (λ (r : Row). ComesBefore name r.name → ⊥)
  broken_found name h =
      let at = row_at s name h.number h.has.0 h.has.1 in
      let found = index_found a h.index (row s.rows at.index).name lawful h.named.0 (h.named.1 ∙ sym at.named) in
      by_row (row_breaks_pin a) name at.index at.within at.named
      (ap (passes (λ i. breaks_pin (class_at a i) (row s.rows at.index).number)) found
      ∙ ap (breaks_pin (class_at a h.index)) at.numbered
      ∙ ap (λ c. breaks_pin c h.number) h.pinned ∙ ap not (ne_eqb h.number h.pin h.broken))

  -- of a name before, or of the name a number before
  abbrev IsUpTo : List ℕ → ℕ → List ℕ × ℕ → Type 0
  IsUpTo name v p = (ComesBefore name p.0 ⊎ ((name ≡ p.0) × (v < p.1))) → ⊥

  least_uncovered : (v i y : ℕ) → in_pool a (class_at a i) v ≡ true → y + value_at s.z v < weight a files i v → MatchOption (uncovered_at a (weight a files) s.z i y) ⊥ (λ u. v < u → ⊥)
  unfolding uncovered_at
  least_uncovered v i y may less =
      let id = pool_id a (class_at a i) v may in
      no_less (is_uncovered a (weight a files) s.z i y) (2 ^ 32) v (omega (arith, id))
      (ap (λ b. b && ltb (y + value_at s.z v) (weight a files i v)) may ∙ lt-ltb _ _ less)

  uncovered_found : (name : List ℕ) (v : ℕ) → IsNotCovered a files s name v → MatchOption (uncovered a (weight a files) s) ⊥ (IsUpTo name v)
  uncovered_found name v h =
      let at = row_at s name h.number h.y h.has in
      let found = index_found a h.index (row s.rows at.index).name lawful h.named.0 (h.named.1 ∙ sym at.named) in
      given_by (λ (r : Row). uncovered_in a (weight a files) s.z r (place_of a.names r.name)) (IsUpTo name v) s.rows at.index blank at.within
      (λ k l. earlier (row s.rows k) (place_of a.names (row s.rows k).name) (λ u. ahead at k u l))
      (rw found (here at))
    where
      ahead : {y x : ℕ} (at : At s name y x) (k u : ℕ) → k < at.index → IsUpTo name v ((row s.rows k).name, u)
      ahead at k u l (inl before) = let P : List ℕ → Type 0 = λ n. ComesBefore n (row s.rows k).name in not_after s side k at.index (omega (arith, l)) at.within (subst P (sym at.named) before)
      ahead at k u l (inr same) = differ_names (row s.rows k).name (row s.rows at.index).name (side.names_ascend k at.index blank l at.within) (sym same.0 ∙ sym at.named)

      any : (r : Row) (o : Option ℕ) → ((u : ℕ) → IsUpTo name v (r.name, u)) → MatchOption (option_map (λ (u : ℕ). (r.name, u)) o) (Unit {0}) (IsUpTo name v)
      any r None so = tt
      any r (Some u) so = so u

      earlier : (r : Row) (o : Option ℕ) → ((u : ℕ) → IsUpTo name v (r.name, u)) → MatchOption (uncovered_in a (weight a files) s.z r o) (Unit {0}) (IsUpTo name v)
      earlier r None so = tt
      earlier r (Some i) so = any r (uncovered_at a (weight a files) s.z i r.y) so

      of_row : (r : Row) (o : Option ℕ) → r.name ≡ name → MatchOption o ⊥ (λ u. v < u → ⊥) → MatchOption (option_map (λ (u : ℕ). (r.name, u)) o) ⊥ (IsUpTo name v)
      of_row r None e h = h
      of_row r (Some u) e h = λ p. elim p [
        | inl before ↦ differ_names name r.name before (sym e)
        | inr same ↦ h same.1
      ]

      here : (at : At s name h.number h.y) → MatchOption (option_map (λ (u : ℕ). ((row s.rows at.index).name, u)) (uncovered_at a (weight a files) s.z h.index (row s.rows at.index).y)) ⊥ (IsUpTo name v)
      here at = of_row (row s.rows at.index) _ at.named (least_uncovered v h.index (row s.rows at.index).y h.may (omega (arith, at.with_y, h.less)))

  -- ---- in the order of the faults

  -- the fault does not stand before what is told
  abbrev NotBefore : CheckFault → CheckFault → Type 0
  NotBefore f told = StandsBefore f told → ⊥

  found_here : {X : Type 0} (f : CheckFault) (fault : X → CheckFault) (o : Option X) (rest : Option CheckFault) → MatchOption o ⊥ (λ x. NotBefore f (fault x)) → MatchOption (or_else (option_map fault o) rest) ⊥ (NotBefore f)
  found_here f fault None rest h = absurd h
  found_here f fault (Some x) rest h = h

  found_later : {X : Type 0} (f : CheckFault) (fault : X → CheckFault) (o : Option X) (rest : Option CheckFault) → ((x : X) → NotBefore f (fault x)) → MatchOption rest ⊥ (NotBefore f) → MatchOption (or_else (option_map fault o) rest) ⊥ (NotBefore f)
  found_later f fault None rest first h = h
  found_later f fault (Some x) rest first h = first x

  matched : {X : Type 0} (P Q : X → Type 0) (o : Option X) → ((x : X) → P x → Q x) → MatchOption o ⊥ P → MatchOption o ⊥ Q
  matched P Q None so h = h
  matched P Q (Some x) so h = so x h

  sums_found : (k : Which) (total weighs : ℕ) → DoDiffer a files s total weighs → MatchOption (sums_differ kind a (weight a files) s) ⊥ (NotBefore (SumsDiffer k total weighs))
  sums_found k total weighs h =
      let is : Some (SumsDiffer kind _ _) ≡ sums_differ kind a (weight a files) s = difference kind (potential_sum (potentials_of a s.rows) s.z) (weight_by a (weight a files) (mapping_of a s.rows)) (λ e. h.differ (h.potentials ∙ e ∙ sym h.mapping)) in
      let P : Option CheckFault → Type 0 = λ o. MatchOption o ⊥ (NotBefore (SumsDiffer k total weighs)) in
      subst P is (λ before. elim before [
        | inl less ↦ absurd (omega (arith, less))
        | inr none ↦ none
      ])

  -- a fault of one number before that of a lower
  not_lower : (m n : ℕ) → n ≤ m → (m < n) ⊎ ⊥ → ⊥
  not_lower m n l (inl less) = absurd (omega (arith, l, less))
  not_lower m n l (inr none) = none

  not_lesser : {P : Type 0} (m : ℕ) → (P → ⊥) → (m < m) ⊎ P → ⊥
  not_lesser m none (inl less) = absurd (omega (arith, less))
  not_lesser m none (inr lesser) = none lesser

  -- where a fault is there, the first that is found does not stand behind it
  kind_found : (f : CheckFault) → IsThere kind a files s f → MatchOption (kind_fault kind a (weight a files) s) ⊥ (NotBefore f)
  unfolding kind_fault
  kind_found (NameMissing k n) h =
      let f = NameMissing k n in
      found_here f (λ m. NameMissing kind m) (missing a s.rows) _ (matched (λ m. lt n m ≡ false) _ (missing a s.rows) (λ m e. not_lesser 29 (λ comes. false≢true (sym e ∙ ap is_lt comes))) (missing_found n h.1))
  kind_found (NumberTwice k v) h =
      let f = NumberTwice k v in
      found_later f (λ m. NameMissing kind m) (missing a s.rows) _ (λ m. not_lower 30 29 (omega arith))
      (found_here f (λ u. NumberTwice kind u) (repeated s.rows) _ (matched (λ u. v < u → ⊥) _ (repeated s.rows) (λ u. not_lesser 30) (twice_found v h.1)))
  kind_found (OutsidePool k n) h =
      let f = OutsidePool k n in
      found_later f (λ m. NameMissing kind m) (missing a s.rows) _ (λ m. not_lower 31 29 (omega arith))
      (found_later f (λ u. NumberTwice kind u) (repeated s.rows) _ (λ u. not_lower 31 30 (omega arith))
      (found_here f (λ (r : Row). OutsidePool kind r.name) (outside a s.rows) _ (matched (λ (r : Row). ComesBefore n r.name → ⊥) _ (outside a s.rows) (λ r. not_lesser 31) (outside_found n h.1))))
  kind_found (PinBroken k n) h =
      let f = PinBroken k n in
      found_later f (λ m. NameMissing kind m) (missing a s.rows) _ (λ m. not_lower 32 29 (omega arith))
      (found_later f (λ u. NumberTwice kind u) (repeated s.rows) _ (λ u. not_lower 32 30 (omega arith))
      (found_later f (λ (r : Row). OutsidePool kind r.name) (outside a s.rows) _ (λ r. not_lower 32 31 (omega arith))
      (found_here f (λ (r : Row). PinBroken kind r.name) (broken a s.rows) _ (matched (λ (r : Row). ComesBefore n r.name → ⊥) _ (broken a s.rows) (λ r. not_lesser 32) (broken_found n h.1)))))
  kind_found (NotCovered k n v) h =
      let f = NotCovered k n v in
      found_later f (λ m. NameMissing kind m) (missing a s.rows) _ (λ m. not_lower 33 29 (omega arith))
      (found_later f (λ u. NumberTwice kind u) (repeated s.rows) _ (λ u. not_lower 33 30 (omega arith))
      (found_later f (λ (r : Row). OutsidePool kind r.name) (outside a s.rows) _ (λ r. not_lower 33 31 (omega arith))
      (found_later f (λ (r : Row). PinBroken kind r.name) (broken a s.rows) _ (λ r. not_lower 33 32 (omega arith))
      (found_here f (λ (p : List ℕ × ℕ). NotCovered kind p.0 p.1) (uncovered a (weight a files) s) _ (matched (IsUpTo n v) _ (uncovered a (weight a files) s) (λ p. not_lesser 33) (uncovered_found n v h.1))))))
  kind_found (SumsDiffer k total weighs) h =
      let f = SumsDiffer k total weighs in
      found_later f (λ m. NameMissing kind m) (missing a s.rows) _ (λ m. not_lower 34 29 (omega arith))
      (found_later f (λ u. NumberTwice kind u) (repeated s.rows) _ (λ u. not_lower 34 30 (omega arith))
      (found_later f (λ (r : Row). OutsidePool kind r.name) (outside a s.rows) _ (λ r. not_lower 34 31 (omega arith))
      (found_later f (λ (r : Row). PinBroken kind r.name) (broken a s.rows) _ (λ r. not_lower 34 32 (omega arith))
      (found_later f (λ (p : List ℕ × ℕ). NotCovered kind p.0 p.1) (uncovered a (weight a files) s) _ (λ p. not_lower 34 33 (omega arith))
      (sums_found k total weighs h.1)))))
  kind_found Memory h = absurd h

  -- what is found is the first, and where nothing is found there is none
  first_of_kind : (told : CheckFault) → kind_fault kind a (weight a files) s ≡ Some told → IsFirst kind a files s told
  first_of_kind told h = record {
    there = fault_there kind a files s told side h;
    none_before = λ other before there. at other before (kind_found other there);
  }
    where
      at : (other : CheckFault) → StandsBefore other told → MatchOption (kind_fault kind a (weight a files) s) ⊥ (NotBefore other) → ⊥
      at other before found = let P : Option CheckFault → Type 0 = λ o. MatchOption o ⊥ (NotBefore other) in subst P h found before

  none_of_kind : kind_fault kind a (weight a files) s ≡ None → HasNoFault kind a files s
  none_of_kind h fault there = let P : Option CheckFault → Type 0 = λ o. MatchOption o ⊥ (NotBefore fault) in subst P h (kind_found fault there)

-- ---- for both kinds

pub first_fault_is_told : FirstFaultIsTold
first_fault_is_told site files c told users groups are h = by (kind_fault User site.users (weight site.users (by_user files)) c.users) refl (refused _ _ told h)
  where
    by : (o : Option CheckFault) → kind_fault User site.users (weight site.users (by_user files)) c.users ≡ o → or_else o (kind_fault Group site.groups (weight site.groups (by_group files)) c.groups) ≡ Some told
        → IsFirst User site.users (by_user files) c.users told ⊎ (HasNoFault User site.users (by_user files) c.users × IsFirst Group site.groups (by_group files) c.groups told)
    by (Some f) is e = inl (first_of_kind User site.users (by_user files) c.users users are.users told (is ∙ e))
    by None is e = inr (none_of_kind User site.users (by_user files) c.users users are.users is, first_of_kind Group site.groups (by_group files) c.groups groups are.groups told e)
