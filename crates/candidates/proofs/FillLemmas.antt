-- The fill, name by name.
use Rattle.std.proofs.Common.{◌≡◌, ℕ, zero, suc, ◌+◌, ◌<◌, ◌≤◌, ◌==◌, ◌&&◌, ◌⊎◌, true, cond, List, [], ◌∷◌, ◌++◌, length, take, get_or, Option, None, Some, refl, sym, ◌∙◌, ap, arith, inl, inr, subst}
use Rattle.std.specs.Prelude.{nat_lt}
use Rattle.std.specs.Option.{is_none}
use Rattle.std.specs.Cmp.Lexicographic.{slice_cmp}
use Rattle.std.specs.Ordering.{nat_cmp}
use Rattle.std.specs.declared.cmp.Ordering.TheVariants.{Less}
use Rattle.std.proofs.lemmas.Bool.{cases_Bool, cases_lt, cases_eq, eqb-true, eq-eqb, ne_eqb, lt-ltb, le-ltb, ltb-true, and_parts, false≢true, both_ways}
use Rattle.std.proofs.lemmas.List.{get_or-set_same, get_or-set_other, length-set, get_or_append_left, get_or_push, take_all, length_push}
use Rattle.std.proofs.lemmas.List.Sums.{sum_by-cons, sum_by_more_le, count_by_more_yes, count_by_more_no}
use Rattle.logindefs.specs.declared.ranges.IdRange.{IdRange}
use Rattle.hosts_join.specs.Accounts.{Accounts}
use Rattle.hosts_join.specs.Lawful.{AreLawfulAccounts}
use Rattle.hosts_join.specs.RangeLists.{lies_in_some}
use Rattle.hosts_join.specs.Rules.{account, in_pool, class_at}
use Rattle.hosts_join.specs.declared.Class.{Class}
use Rattle.hosts_join.specs.declared.Class.TheVariants.{Pinned, Regular, System}
use Rattle.candidates.specs.Fill.{gift}
use Rattle.ownership.specs.Weights.{Precedes}
use Rattle.candidates.specs.Settled.{is_had, times, AreWaiting, IsStart, HasLeast, IsGiven, IsDone}
use Rattle.candidates.proofs.Numbers.{had-by, had-at}

-- the cursor of a class
abbrev pub cursor_of : ℕ → ℕ → Class → ℕ
cursor_of regular system (Pinned v) = 0
cursor_of regular system Regular = regular
cursor_of regular system System = system

pub record IsFillSoFar (a : Accounts) (start : List (Option ℕ)) (ws : List ℕ) (k : ℕ) (numbers : List (Option ℕ)) (regular system : ℕ) : Type 0 where
  pub len : length numbers ≡ length start
  pub kept : (x v : ℕ) → gift start x ≡ Some v → gift numbers x ≡ Some v
  pub todo : (x : ℕ) → gift start x ≡ None → times x (take k ws) ≡ 0 → gift numbers x ≡ None
  pub did : (x : ℕ) → gift start x ≡ None → 1 ≤ times x (take k ws) → HasLeast a start numbers x
  pub distinct : (x y v : ℕ) → gift numbers x ≡ Some v → gift numbers y ≡ Some v → x ≡ y
  pub below : (c : Class) (u : ℕ) → in_pool a c u ≡ true → u < cursor_of regular system c → is_had numbers u ≡ true

pub some-none : {v : ℕ} {o : Option ℕ} → o ≡ Some v → o ≡ None → ⊥
some-none e n = clash (sym e ∙ n)
  where
    clash : {v : ℕ} → ◌≡◌ {A = Option ℕ} (Some v) None → ⊥
    clash e = (cc)

pub some-same : {v w : ℕ} → ◌≡◌ {A = Option ℕ} (Some v) (Some w) → v ≡ w
some-same e = (cc)

pub none-past : (xs : List (Option ℕ)) (x v : ℕ) → gift xs x ≡ Some v → x < length xs
none-past [] x v e = absurd (clash e)
  where
    clash : ◌≡◌ {A = Option ℕ} None (Some v) → ⊥
    clash e = (cc)
none-past (o ∷ xs) zero v e = omega arith
none-past (o ∷ xs) (suc x) v e = omega (arith, none-past xs x v e)

-- two texts stand in order, or are one text
pub in-order : (x y : List ℕ) → (slice_cmp nat_cmp x y ≡ Less) ⊎ ((x ≡ y) ⊎ (slice_cmp nat_cmp y x ≡ Less))
in-order [] [] = inr (inl refl)
in-order [] (b ∷ y) = inl refl
in-order (a ∷ x) [] = inr (inr refl)
in-order (a ∷ x) (b ∷ y) = elim (cases_lt a b) [
  | inl less ↦ inl (rw (lt-ltb a b less) refl)
  | inr more ↦ elim (cases_eq a b) [
    | inl e ↦ elim (in-order x y) [
      | inl l ↦ inl (rw (le-ltb a b more, eq-eqb a b e) l)
      | inr r ↦ elim r [
        | inl s ↦ inr (inl (rw (e, s) refl))
        | inr g ↦ inr (inr (rw (le-ltb b a (omega arith), eq-eqb b a (sym e)) g))
      ]
    ]
    | inr ne ↦ inr (inr (rw (lt-ltb b a (omega arith)) refl))
  ]
]

-- a name that stands in the list stands somewhere in it
times-some : (ws : List ℕ) (k j : ℕ) → 1 ≤ times j (take k ws) → (m : ℕ) × (m < k) × (m < length ws) × (get_or ws m 0 ≡ j)
times-some [] k j h = absurd (empty k h)
  where
    empty : (k : ℕ) → 1 ≤ times j (take k []) → ⊥
    empty zero h = omega arith
    empty (suc k) h = omega arith
times-some (w ∷ ws) zero j h = absurd (omega arith)
times-some (w ∷ ws) (suc k) j h = elim (cases_Bool (w == j)) [
  | inl t ↦ (0, omega arith, omega arith, eqb-true w j t)
  | inr f ↦ let r = times-some ws k j (omega (arith, h, sum_by-cons (λ (w : ℕ). cond (w == j) 1 0) w (take k ws), ap (λ b. cond {A = ℕ} b 1 0) f)) in (suc r.0, omega (arith, r.1), omega (arith, r.2), r.3)
]

-- the list's name at an index: it waits, and stands there alone
pub record IsNext (a : Accounts) (start : List (Option ℕ)) (ws : List ℕ) (k : ℕ) : Type 0 where
  pub within : get_or ws k 0 < length a.names
  pub none : gift start (get_or ws k 0) ≡ None
  pub first : times (get_or ws k 0) (take k ws) ≡ 0

is-none : (o : Option ℕ) → is_none o ≡ true → o ≡ None
is-none None e = refl
is-none (Some v) e = absurd (false≢true e)

pub is-next : (a : Accounts) (start : List (Option ℕ)) (ws : List ℕ) (k : ℕ) → AreWaiting a start ws → k < length ws → IsNext a start ws k
is-next a start ws k w h =
    let i = get_or ws k 0 in
    let one : cond {A = ℕ} (i == i) 1 0 ≡ 1 = rw (eq-eqb i i refl) refl in
    let more = sum_by_more_le (λ (w : ℕ). cond (w == i) 1 0) ws k 0 h in
    let once = w.once i in
    elim (cases_Bool (nat_lt i (length a.names) && is_none (gift start i))) [
      | inl t ↦ let p = and_parts (nat_lt i (length a.names)) (is_none (gift start i)) t in
          let c1 = ap (λ b. cond {A = ℕ} b 1 0) t in
          record { within = ltb-true i (length a.names) p.0; none = is-none (gift start i) p.1; first = omega (arith, more, one, once, c1) }
      | inr f ↦ absurd (let c0 = ap (λ b. cond {A = ℕ} b 1 0) f in omega (arith, more, one, once, c0))
    ]

module _ (a : Accounts) (start : List (Option ℕ)) (ws : List ℕ) (k : ℕ) (numbers new : List (Option ℕ)) (regular system regular' system' : ℕ) (pool : List IdRange) (from next : ℕ)
    (lawful : AreLawfulAccounts a) (w : AreWaiting a start ws) (h : k < length ws) (s : IsFillSoFar a start ws k numbers regular system) (long : length start ≡ length a.names)
    (pooled : (v : ℕ) → lies_in_some pool v ≡ in_pool a (class_at a (get_or ws k 0)) v) (given : IsGiven pool numbers new (get_or ws k 0) from next)
    (cursor : from ≡ cursor_of regular system (class_at a (get_or ws k 0)))
    (moved : (c : Class) → (cursor_of regular' system' c ≤ cursor_of regular system c) ⊎ ((c ≡ class_at a (get_or ws k 0)) × (cursor_of regular' system' c ≡ next))) where
  n : IsNext a start ws k
  n = is-next a start ws k w h

  was : gift numbers (get_or ws k 0) ≡ None
  was = s.todo (get_or ws k 0) n.none n.first

  inside : get_or ws k 0 < length numbers
  inside = omega (arith, n.within, s.len, long)

  now-here : gift new (get_or ws k 0) ≡ Some given.number
  now-here = ap (λ xs. gift xs (get_or ws k 0)) given.set ∙ get_or-set_same numbers (get_or ws k 0) (Some given.number) None inside

  now-other : (x : ℕ) → (x ≡ get_or ws k 0 → ⊥) → gift new x ≡ gift numbers x
  now-other x ne = ap (λ xs. gift xs x) given.set ∙ get_or-set_other numbers (get_or ws k 0) x (Some given.number) None ne

  stays : (x v : ℕ) → gift numbers x ≡ Some v → gift new x ≡ Some v
  stays x v e = now-other x (λ same. some-none e (ap (gift numbers) same ∙ was)) ∙ e

  had-stays : (u : ℕ) → is_had numbers u ≡ true → is_had new u ≡ true
  had-stays u e = let r = had-by numbers u e in had-at new r.0 u (stays r.0 u r.2)

  more-times : (x : ℕ) → times x (take (k + 1) ws) ≡ times x (take k ws) + cond ((get_or ws k 0) == x) 1 0
  more-times x = elim (cases_Bool ((get_or ws k 0) == x)) [
    | inl t ↦ rw t (count_by_more_yes (λ (w : ℕ). w == x) ws k 0 h t)
    | inr f ↦ rw f (count_by_more_no (λ (w : ℕ). w == x) ws k 0 h f ∙ (omega arith))
  ]

  all-had : (u : ℕ) → in_pool a (class_at a (get_or ws k 0)) u ≡ true → u < given.number → is_had numbers u ≡ true
  all-had u p l = elim (cases_lt u from) [
    | inl less ↦ s.below (class_at a (get_or ws k 0)) u p (omega (arith, cursor))
    | inr more ↦ given.least u more l (pooled u ∙ p)
  ]

  precedes : (j : ℕ) → gift start j ≡ None → (gift numbers j ≡ None → ⊥) → (j ≡ get_or ws k 0 → ⊥) → Precedes a j (get_or ws k 0)
  precedes j none has other =
      let i = get_or ws k 0 in
      let some : 1 ≤ times j (take k ws) = elim (cases_eq (times j (take k ws)) 0) [ inl e ↦ absurd (has (s.todo j none e)) | inr ne ↦ omega arith ] in
      let m = times-some ws k j some in
      let at_m : (account a (get_or ws m.0 0)).name ≡ (account a j).name = ap (λ x. (account a x).name) m.3 in
      elim (in-order (account a j).name (account a i).name) [
        | inl l ↦ l
        | inr r ↦ elim r [
          | inl same ↦ absurd (let jn = n-inside j m.0 m.2 m.3 in other (lawful.names_differ j i jn n.within same))
          | inr g ↦ absurd (w.ordered m.0 k m.1 h (rw at_m g))
        ]
      ]
    where
      n-inside : (j m : ℕ) → m < length ws → get_or ws m 0 ≡ j → j < length a.names
      n-inside j m l e = let q = is-next a start ws m w l in omega (arith, q.within, e)

  pub fill-step : IsFillSoFar a start ws (k + 1) new regular' system'
  fill-step = record {
    len = ap length given.set ∙ length-set numbers (get_or ws k 0) (Some given.number) ∙ s.len;
    kept = λ x v e. stays x v (s.kept x v e);
    todo = λ x none e. let t = more-times x in elim (cases_Bool ((get_or ws k 0) == x)) [
      | inl b ↦ absurd (let c1 = ap (λ b. cond {A = ℕ} b 1 0) b in omega (arith, t, c1, e))
      | inr f ↦ now-other x (λ same. both_ways ((get_or ws k 0) == x) f (eq-eqb _ x (sym same))) ∙ s.todo x none (omega (arith, t, e))
    ];
    did = λ x none e. let t = more-times x in elim (cases_eq x (get_or ws k 0)) [
      | inl same ↦ record {
        number = given.number;
        has = ap (gift new) same ∙ now-here;
        member = ap (λ j. in_pool a (class_at a j) given.number) same ∙ sym (pooled given.number) ∙ given.member;
        least = λ u p l.
            let r = had-by numbers u (all-had u (ap (λ j. in_pool a (class_at a j) u) (sym same) ∙ p) l) in
            record { by = r.0; has = stays r.0 u r.2; earlier = λ none'. subst (λ (j : ℕ). Precedes a r.0 j) (sym same) (precedes r.0 none' (λ q. some-none r.2 q) (λ q. some-none r.2 (ap (gift numbers) q ∙ was))) };
      }
      | inr ne ↦
          let c0 : cond {A = ℕ} ((get_or ws k 0) == x) 1 0 ≡ 0 = ap (λ b. cond {A = ℕ} b 1 0) (ne_eqb _ x (λ q. ne (sym q))) in
          let d = s.did x none (omega (arith, t, c0, e)) in
          record {
            number = d.number;
            has = stays x d.number d.has;
            member = d.member;
            least = λ u p l. let b = d.least u p l in record { by = b.by; has = stays b.by u b.has; earlier = b.earlier };
          }
    ];
    distinct = λ x y v ex ey. elim (cases_eq x (get_or ws k 0)) [
      | inl sx ↦ elim (cases_eq y (get_or ws k 0)) [
        | inl sy ↦ sx ∙ sym sy
        | inr ny ↦ absurd (once y v ny ey (sym now-here ∙ ap (gift new) (sym sx) ∙ ex))
      ]
      | inr nx ↦ elim (cases_eq y (get_or ws k 0)) [
        | inl sy ↦ absurd (once x v nx ex (sym now-here ∙ ap (gift new) (sym sy) ∙ ey))
        | inr ny ↦ s.distinct x y v (sym (now-other x nx) ∙ ex) (sym (now-other y ny) ∙ ey)
      ]
    ];
    below = λ c u p l. elim (moved c) [
      | inl le ↦ had-stays u (s.below c u p (omega (arith, le, l)))
      | inr up ↦ elim (cases_eq u given.number) [
        | inl e ↦ had-at new (get_or ws k 0) u (now-here ∙ ap Some (sym e))
        | inr ne ↦ had-stays u (all-had u (ap (λ (c : Class). in_pool a c u) (sym up.0) ∙ p) (omega (arith, up.1, l, given.next_is)))
      ]
    ];
  }
    where
      once : (y v : ℕ) → (y ≡ get_or ws k 0 → ⊥) → gift new y ≡ Some v → ◌≡◌ {A = Option ℕ} (Some given.number) (Some v) → ⊥
      once y v ny ey e = let there : gift numbers y ≡ Some given.number = sym (now-other y ny) ∙ ey ∙ sym e in both_ways (is_had numbers given.number) given.fresh (had-at numbers y given.number there)

pub fill-start : (a : Accounts) (start : List (Option ℕ)) (ws : List ℕ) → IsStart a start → IsFillSoFar a start ws 0 start 0 0
fill-start a start ws s = record {
  len = refl;
  kept = λ x v e. e;
  todo = λ x e _. e;
  did = λ x e l. absurd (omega arith);
  distinct = s.distinct;
  below = λ c u p l. absurd (zero-cursor c u l);
}
  where
    zero-cursor : (c : Class) (u : ℕ) → u < cursor_of 0 0 c → ⊥
    zero-cursor (Pinned v) u l = omega arith
    zero-cursor Regular u l = omega arith
    zero-cursor System u l = omega arith

pub fill-end : (a : Accounts) (start numbers : List (Option ℕ)) (ws : List ℕ) (k regular system : ℕ) → length start ≡ length a.names → AreWaiting a start ws → length ws ≤ k → IsFillSoFar a start ws k numbers regular system → IsDone a start numbers
fill-end a start numbers ws k regular system long w all s = record {
  len = s.len;
  kept = s.kept;
  filled = λ i h none. s.did i none (
      let e : times i (take k ws) ≡ times i ws = ap (times i) (take_all k ws all) in
      let t : (nat_lt i (length a.names) && is_none (gift start i)) ≡ true = rw (lt-ltb i (length a.names) (omega (arith, long)), none) refl in
      omega (arith, e, w.once i, ap (λ b. cond {A = ℕ} b 1 0) t));
  distinct = s.distinct;
}

pub length_pushed : {X : Type 0} (xs : List X) (x : X) → length (xs ++ x ∷ []) ≡ length xs + 1
length_pushed xs x = length_push xs x

pub push-each : (xs : List (Option ℕ)) (x : Option ℕ) (k : ℕ) (f : ℕ → Option ℕ) → length xs ≡ k → ((i : ℕ) → i < k → gift xs i ≡ f i) → x ≡ f k → (i : ℕ) → i < k + 1 → gift (xs ++ x ∷ []) i ≡ f i
push-each xs x k f len each e i h = elim (cases_lt i k) [
  | inl less ↦ get_or_append_left xs (x ∷ []) None i (omega (arith, len)) ∙ each i less
  | inr more ↦ let same : i ≡ k = omega arith in get_or_push xs x None i (omega (arith, len)) ∙ e ∙ ap f (sym same)
]
