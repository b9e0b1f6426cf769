-- Which numbers the names of a joined site may have.
use Rattle.std.proofs.Common.{◌≡◌, ℕ, zero, suc, ◌<◌, ◌≤◌, ◌==◌, ◌&&◌, ◌||◌, ◌⊎◌, Bool, true, false, not, cond, List, [], ◌∷◌, length, map, get_or, Option, Some, None, Ok, refl, sym, ◌∙◌, ap, subst, arith, inl, inr}
use Rattle.std.specs.List.{All, Contains, list_any, list_all, filter}
use Rattle.std.specs.Str.{bytes_eq}
use Rattle.std.specs.Prelude.{nat_le}
use Rattle.std.proofs.lemmas.Bool.{cases_Bool, both_ways, or_right, or_parts, and_parts, not-true, le-leb, or_from, eq-eqb, eqb-true, false≢true, false_from_ne_true}
use Rattle.std.proofs.lemmas.List.{get_or-map, length-map}
use Rattle.std.proofs.lemmas.List.Elements.{All-nil, All-cons, All-head, All-tail, All-weaker, All-contains, Contains-get_or}
use Rattle.std.proofs.lemmas.List.Folds.{list_any-append, list_any_none}
use Rattle.std.proofs.lemmas.List.Sums.{sum_by-cons}
use Rattle.std.proofs.lemmas.Option.{same_Some}
use Rattle.idtext.proofs.FirstLemmas.{none_of_both}
use Rattle.idtext.proofs.OkLemmas.{unless_ok, bind_ok}
use Rattle.accounts.specs.Laws.{AreDistinct}
use Rattle.accounts.specs.Rows.{Passwd}
use Rattle.accounts.specs.Rows as row
use Rattle.logindefs.specs.Ranges.{in_range}
use Rattle.logindefs.specs.declared.ranges.IdRange.{IdRange}
use Rattle.logindefs.specs.declared.ranges.HostRanges.{HostRanges}
use Rattle.hosts_join.specs.Accounts.{Account, Accounts, HostEntry, Pair, Row, rows_from, spot_of, spots_of, standing_on, no_account}
use Rattle.hosts_join.specs.Hosts.{IsLawfulHost}
use Rattle.hosts_join.specs.Kinds.{user_at, group_at, user_rows, group_rows, user_rows-table, group_rows-table}
use Rattle.hosts_join.specs.Pairs.{number_of}
use Rattle.hosts_join.specs.Rules.{class_of, pinned_to, absent_pins, account, claim_fault, claims, clash_of, class_at, class_by, disagreement, disagrees, first_some, host_name, in_pool, is_name, is_pinning, is_regular, is_reserved, is_taken, joined, pinned_names, refusal, sources, sources_among}
use Rattle.hosts_join.specs.Site.{Joined, accounts_of, entry_on, users_of, groups_of}
use Rattle.hosts_join.specs.Standings.{AreAllOffered, DisagreeingPinsAreRefused, PinsAgree, NumbersThatMayStandAreOffered, StandsWhereItMay, HostTells, IsFree, IsOffered, IsOutside, IsSomewhereRegular, NumbersStandWhereTheyMay, StandWhereTheyMay, of_users, of_groups}
use Rattle.hosts_join.specs.declared.Class.{Class}
use Rattle.hosts_join.specs.declared.Class.TheVariants.{Pinned, Regular, System}
use Rattle.hosts_join.specs.declared.Source.{Source}
use Rattle.hosts_join.specs.declared.Spot.{Spot}
use Rattle.hosts_join.specs.declared.Standing.TheVariants as on
use Rattle.hosts_join.specs.declared.Which.{Which}
use Rattle.hosts_join.specs.declared.Which.TheVariants.{User, Group}
use Rattle.hosts_join.specs.declared.fault.SiteFault.TheVariants.{PinDisagrees}
use Rattle.hosts_join.specs.declared.host.Host.{Host}
use Rattle.hosts_join.specs.declared.reserving.Reserved.{Reserved}
use Rattle.hosts_join.proofs.Grouping.{bytes_refl, bytes_same}
use Rattle.hosts_join.proofs.Knowing.{site-is, told-by}
use Rattle.hosts_join.proofs.Lawful.{claims-apart, claims-once, count, count-there, pins-once}
use Rattle.hosts_join.proofs.PinnedBy.{pin-class, pinning-class, some-none}
use Rattle.hosts_join.proofs.Refusals.{not-clashing}
use Rattle.hosts_join.proofs.ReservedLaws.{pin-taken}
use Rattle.hosts_join.proofs.Sources.{none-mapped, source_of}
use Rattle.hosts_join.proofs.StandingRows.{account-spots, account-there, any-there, contains-any, contains-filter, name_in, row-among, row-there, row_on, rows-all, rows-named, spot-there, spots-named}

-- ---- what a number is on a host

outside-pins : (r s : Bool) → r ≡ false → s ≡ false → is_pinning (cond r on.Regular (cond s on.System on.Pinning)) ≡ true
outside-pins r s a b = rw (a, b) refl

pinning-outside : (r s : Bool) → is_pinning (cond r on.Regular (cond s on.System on.Pinning)) ≡ true → (r ≡ false) × (s ≡ false)
pinning-outside true s e = absurd (false≢true e)
pinning-outside false true e = absurd (false≢true e)
pinning-outside false false e = (refl, refl)

in-regular : (r s : Bool) → r ≡ true → is_regular (cond r on.Regular (cond s on.System on.Pinning)) ≡ true
in-regular r s a = rw a refl

regular-in : (r s : Bool) → is_regular (cond r on.Regular (cond s on.System on.Pinning)) ≡ true → r ≡ true
regular-in true s e = refl
regular-in false true e = absurd (false≢true e)
regular-in false false e = absurd (false≢true e)

-- ---- the class of a name

-- a spot that stands for a place that is too high
abbrev no_spot : Spot
no_spot = record { host = 0; number = 0; standing = on.Pinning }

filter-none : {X : Type 0} (p : X → Bool) (xs : List X) → All (λ x. p x ≡ false) xs → filter p xs ≡ []
filter-none p [] all = refl
filter-none p (x ∷ xs) all =
    let here : p x ≡ false = All-head (λ x. p x ≡ false) x xs all in
    rw here (filter-none p xs (All-tail (λ x. p x ≡ false) x xs all))

free-class : (pin : Option ℕ) (spots : List Spot) → pin ≡ None → All (λ s. is_pinning s.standing ≡ false) spots → class_by (sources_among pin spots) spots ≡ cond (list_any (λ s. is_regular s.standing) spots) Regular System
free-class pin spots none all =
    ap (λ pin. class_by (sources_among pin spots) spots) none
    ∙ ap (λ pinning. class_by (map source_of pinning) spots) (filter-none (λ (s : Spot). is_pinning s.standing) spots all)

first-none : {X Y : Type 0} (f : X → Option Y) (xs : List X) (i : ℕ) (d : X) → first_some f xs ≡ None → i < length xs → f (get_or xs i d) ≡ None
first-none f [] i d e less = absurd (omega (arith, less))
first-none f (x ∷ xs) zero d e less = (none_of_both (f x) (first_some f xs) e).0
first-none f (x ∷ xs) (suc i) d e less = first-none f xs i d (none_of_both (f x) (first_some f xs) e).1 (omega arith)

-- ---- claims

number-pair : (pins : List Pair) (n : List ℕ) (v : ℕ) → number_of pins n ≡ Some v → Contains pins (record { name = n; number = v })
number-pair [] n v e = absurd (cc)
number-pair (p ∷ pins) n v e = elim (cases_Bool (bytes_eq n p.name)) [
  | inl it ↦
      let e' = rw it at e in
      let named : p.name ≡ n = sym (bytes_same n p.name it) in
      let numbered : p.number ≡ v = same_Some p.number v e' in
      (0, omega arith, λ i. record { name = named i; number = numbered i })
  | inr away ↦ let rest = number-pair pins n v (rw away at e) in let less = rest.1 in (suc rest.0, omega arith, rest.2)
]

-- the number of a pinned name that no host has is claimed
absent-taken : (names : List Account) (pins : List Pair) (n : List ℕ) (v : ℕ) → is_name names n ≡ false → number_of pins n ≡ Some v → is_taken (absent_pins names pins) v ≡ true
absent-taken names pins n v away e =
    let pair : Pair = record { name = n; number = v } in
    let absent = λ (p : Pair). not (is_name names p.name) in
    contains-any (λ (p : Pair). p.number == v) (filter absent pins) pair (eq-eqb v v refl)
    (contains-filter absent pins pair (ap not away) (number-pair pins n v e))

any-counted : (v : ℕ) (ps : List Pair) → is_taken ps v ≡ true → 1 ≤ count v ps
any-counted v [] e = absurd (false≢true e)
any-counted v (p ∷ ps) e = elim (cases_Bool (p.number == v)) [
  | inl it ↦ omega (arith, sum_by-cons (λ (q : Pair). cond (q.number == v) 1 0) p ps, ap (λ b. cond {A = ℕ} b 1 0) it)
  | inr away ↦ omega (arith, any-counted v ps (rw away at e), sum_by-cons (λ (q : Pair). cond (q.number == v) 1 0) p ps, ap (λ b. cond {A = ℕ} b 1 0) away)
]

absent-claimed : (a : Accounts) (v : ℕ) → is_taken (absent_pins a.names a.pins) v ≡ true → is_taken (claims a) v ≡ true
absent-claimed a v e = list_any-append (λ (p : Pair). p.number == v) (pinned_names a.pins a.names) (absent_pins a.names a.pins) ∙ or_right (is_taken (pinned_names a.pins a.names) v) (is_taken (absent_pins a.names a.pins) v) e

pool-untaken : (a : Accounts) (c : Class) (v : ℕ) → in_pool a c v ≡ true → is_taken (claims a) v ≡ false
pool-untaken a (Pinned u) v e = absurd (false≢true e)
pool-untaken a Regular v e = (or_parts (is_taken (claims a) v) (is_reserved a.reserved v) (not-true _ (and_parts _ _ e).1)).0
pool-untaken a System v e = (or_parts (is_taken (claims a) v) (is_reserved a.reserved v) (not-true _ (and_parts _ _ e).1)).0

same_pin : (v w : ℕ) → Pinned v ≡ Pinned w → v ≡ w
same_pin v w e = (cc)

-- ---- what pins a name

all-not : {X : Type 0} (p : X → Bool) (xs : List X) → list_any p xs ≡ false → All (λ x. p x ≡ false) xs
all-not p [] e = All-nil (λ x. p x ≡ false)
all-not p (x ∷ xs) e =
    let parts = or_parts (p x) (list_any p xs) e in
    All-cons (λ x. p x ≡ false) x xs parts.0 (all-not p xs parts.1)

mapped-all : {X Y : Type 0} (p : Y → Bool) (f : X → Y) (xs : List X) → All (λ x. p (f x) ≡ true) xs → list_all p (map f xs) ≡ true
mapped-all p f [] all = refl
mapped-all p f (x ∷ xs) all =
    let here : p (f x) ≡ true = All-head (λ x. p (f x) ≡ true) x xs all in
    rw here (mapped-all p f xs (All-tail (λ x. p (f x) ≡ true) x xs all))

unpinned-class : (b : Bool) (v : ℕ) → cond b Regular System ≡ Pinned v → ⊥
unpinned-class true v e = cc
unpinned-class false v e = cc

first-pinning : (ss spots : List Spot) (v : ℕ) → class_by (map source_of (filter (λ s. is_pinning s.standing) ss)) spots ≡ Pinned v → (s : Spot) × Contains ss s × (is_pinning s.standing ≡ true) × (s.number ≡ v)
first-pinning [] spots v e = absurd (unpinned-class (list_any (λ (s : Spot). is_regular s.standing) spots) v e)
first-pinning (s ∷ ss) spots v e = elim (cases_Bool (is_pinning s.standing)) [
  | inl it ↦ let e' = rw it at e in (s, (0, omega arith, refl), it, same_pin s.number v e')
  | inr away ↦ let rest = first-pinning ss spots v (rw away at e) in let less = rest.1.1 in (rest.0, (suc rest.1.0, omega arith, rest.1.2), rest.2, rest.3)
]

pinned-by : (pin : Option ℕ) (spots : List Spot) (v : ℕ) → class_by (sources_among pin spots) spots ≡ Pinned v → (pin ≡ Some v) ⊎ ((s : Spot) × Contains spots s × (is_pinning s.standing ≡ true) × (s.number ≡ v))
pinned-by (Some w) spots v e = inl (ap Some (same_pin w v e))
pinned-by None spots v e = inr (first-pinning spots spots v e)

pinned-class : (c : Class) (name : List ℕ) (v : ℕ) → is_taken (pinned_to c name) v ≡ true → c ≡ Pinned v
pinned-class (Pinned u) name v e = elim (cases_Bool (u == v)) [
  | inl it ↦ ap Pinned (eqb-true u v it)
  | inr away ↦ let e' = rw away at e in absurd (false≢true e')
]
pinned-class Regular name v e = absurd (false≢true e)
pinned-class System name v e = absurd (false≢true e)

pinned-among : (pins : List Pair) (ns : List Account) (v : ℕ) → is_taken (pinned_names pins ns) v ≡ true → (j : ℕ) × (j < length ns) × (class_of pins (get_or ns j no_account) ≡ Pinned v)
pinned-among pins [] v e = absurd (false≢true e)
pinned-among pins (n ∷ ns) v e =
    let here = pinned_to (class_of pins n) n.name in
    let e' : (is_taken here v || is_taken (pinned_names pins ns) v) ≡ true = sym (list_any-append (λ (p : Pair). p.number == v) here (pinned_names pins ns)) ∙ e in
    elim (cases_Bool (is_taken here v)) [
      | inl it ↦ (0, omega arith, pinned-class (class_of pins n) n.name v it)
      | inr away ↦
          let e'' : is_taken (pinned_names pins ns) v ≡ true = ap (λ b. b || is_taken (pinned_names pins ns) v) (sym away) ∙ e' in
          let rest = pinned-among pins ns v e'' in
          let less = rest.1 in
          (suc rest.0, omega arith, rest.2)
    ]

taken-kept : {X : Type 0} (p q : X → Bool) (xs : List X) → list_any p (filter q xs) ≡ true → (x : X) × Contains xs x × (q x ≡ true) × (p x ≡ true)
taken-kept p q [] e = absurd (false≢true e)
taken-kept p q (x ∷ xs) e = elim (cases_Bool (q x)) [
  | inl kept ↦ elim (cases_Bool (p x)) [
    | inl it ↦ (x, (0, omega arith, refl), kept, it)
    | inr away ↦ later p q x xs (taken-kept p q xs (rw (kept, away) at e))
  ]
  | inr gone ↦ later p q x xs (taken-kept p q xs (rw gone at e))
]
  where
    later : {X : Type 0} (p q : X → Bool) (x : X) (xs : List X) → (y : X) × Contains xs y × (q y ≡ true) × (p y ≡ true) → (y : X) × Contains (x ∷ xs) y × (q y ≡ true) × (p y ≡ true)
    later p q x xs rest = let less = rest.1.1 in (rest.0, (suc rest.1.0, omega arith, rest.1.2), rest.2, rest.3)

pair-number : (pins : List Pair) (p : Pair) → AreDistinct (map (λ p. p.name) pins) → Contains pins p → number_of pins p.name ≡ Some p.number
pair-number [] p apart c = let less = c.1 in absurd (omega (arith, less))
pair-number (x ∷ pins) p apart (zero, lt, e) =
    let it : bytes_eq p.name x.name ≡ true = ap (λ (y : Pair). bytes_eq p.name y.name) e ∙ bytes_refl p.name in
    rw it (ap (λ (y : Pair). Some y.number) e)
pair-number (x ∷ pins) p apart (suc i, lt, e) =
    let away : bytes_eq p.name x.name ≡ false = false_from_ne_true (bytes_eq p.name x.name) (λ it.
    let there : get_or (map (λ (q : Pair). q.name) pins) i [] ≡ p.name = get_or-map (λ (q : Pair). q.name) pins i p [] (omega arith) ∙ ap (λ (q : Pair). q.name) e in
    let z : 0 ≡ suc i = apart 0 (suc i) [] (omega arith) (omega (arith, length-map pins (λ (q : Pair). q.name))) (sym (bytes_same p.name x.name it) ∙ sym there) in
    omega (arith, z)) in
    let rest : number_of pins p.name ≡ Some p.number = pair-number pins p (λ i j d hi hj e. let s : suc i ≡ suc j = apart (suc i) (suc j) d (omega arith) (omega arith) e in omega arith) (i, omega arith, e) in
    rw away rest

-- ---- a number that a name may have

module _ (a : Accounts) (i v : ℕ) (offered : IsOffered a i v) where
  pinned-offered : (w : ℕ) → class_at a i ≡ Pinned w → v ≡ w
  pinned-offered w e = elim offered [
    | inl pin ↦ same_pin v w (sym pin ∙ e)
    | inr pool ↦ absurd (false≢true (ap (λ c. in_pool a c v) (sym e) ∙ pool))
  ]

  free-offered : (c : Class) → class_at a i ≡ c → (c ≡ Pinned v → ⊥) → in_pool a c v ≡ true
  free-offered c e unpinned = elim offered [
    | inl pin ↦ absurd (unpinned (sym e ∙ pin))
    | inr pool ↦ ap (λ c. in_pool a c v) (sym e) ∙ pool
  ]

  module _ (apart : clash_of (claims a) ≡ None) (less : i < length a.names) where
    -- is pinned to no other name
    no-other : (j : ℕ) → j < length a.names → class_at a j ≡ Pinned v → i ≡ j
    no-other j there e = elim offered [
      | inl pin ↦ pins-once a.pins v a.names i j (claims-once v a apart) less there pin e
      | inr pool ↦ absurd (both_ways _ (pool-untaken a (class_at a i) v pool) (pin-taken a j v there e))
    ]

    no-absent : (n : List ℕ) → is_name a.names n ≡ false → number_of a.pins n ≡ Some v → ⊥
    no-absent n away e =
        let taken = absent-taken a.names a.pins n v away e in
        elim offered [
          | inl pin ↦ omega (arith, claims-apart v a apart, count-there a.pins v a.names i less pin, any-counted v (absent_pins a.names a.pins) taken)
          | inr pool ↦ both_ways _ (pool-untaken a (class_at a i) v pool) (absent-claimed a v taken)
        ]

regular-free : (v : ℕ) → Regular ≡ Pinned v → ⊥
regular-free v e = cc

system-free : (v : ℕ) → System ≡ Pinned v → ⊥
system-free v e = cc

all-mapped : {X Y : Type 0} (p : Y → Bool) (f : X → Y) (xs : List X) → list_all p (map f xs) ≡ true → All (λ x. p (f x) ≡ true) xs
all-mapped p f [] e = All-nil (λ x. p (f x) ≡ true)
all-mapped p f (x ∷ xs) e =
    let parts = and_parts (p (f x)) (list_all p (map f xs)) e in
    All-cons (λ x. p (f x) ≡ true) x xs parts.0 (all-mapped p f xs parts.1)

-- ---- the accounts of a kind

module _ (kind : Which) (regular system : HostRanges → IdRange) (listed : Host → List (List ℕ × ℕ)) (name_at : Host → ℕ → Option (List ℕ))
    (distinct : (h : Host) → IsLawfulHost h → AreDistinct (map (λ p. p.1) (listed h))) (told : (h : Host) (v : ℕ) → name_in (listed h) v ≡ name_at h v)
    (hosts : List Host) (lawful : All IsLawfulHost hosts) (pins : List Pair) (reserved : List Reserved) where
  abbrev tells : Host → HostTells
  tells h = record { name_at = name_at h; regular = regular h.ranges; system = system h.ranges }

  abbrev rows : List Row
  rows = rows_from (λ (h : Host). regular h.ranges) (λ (h : Host). system h.ranges) listed 0 hosts

  abbrev a : Accounts
  a = accounts_of regular system listed hosts pins reserved

  abbrev row_at : ℕ → Host → List ℕ → ℕ → Row
  row_at place h n v = row_on place (regular h.ranges) (system h.ranges) (n, v)

  -- what a host's table tells is a row
  told-row : (h : Host) (n : List ℕ) (v : ℕ) → Contains hosts h → name_at h v ≡ Some n → (place : ℕ) × Contains rows (row_at place h n v)
  told-row h n v there has = row-among (λ (h : Host). regular h.ranges) (λ (h : Host). system h.ranges) listed 0 hosts h (n, v) there (row-there v n (listed h) (told h v ∙ has))

  -- and a spot of a name comes from a host's table
  abbrev Comes : List ℕ → Spot → Type 0
  Comes n s = (h : Host) × Contains hosts h × (name_at h s.number ≡ Some n) × (s.standing ≡ standing_on (regular h.ranges) (system h.ranges) s.number)

  spots-come : (n : List ℕ) → All (Comes n) (spots_of rows n)
  spots-come n = spots-named Comes rows n
      (rows-all (λ (h : Host). regular h.ranges) (λ (h : Host). system h.ranges) listed (λ r. Comes r.name (spot_of r)) 0 hosts
      (λ place h there k d l. (h, there, sym (told h (get_or (listed h) k d).1) ∙ rows-named (listed h) (distinct h (All-contains IsLawfulHost hosts h lawful there)) k d l, refl)))

  unpinning : (n : List ℕ) → IsFree tells hosts pins n → All (λ s. is_pinning s.standing ≡ false) (spots_of rows n)
  unpinning n free = All-weaker (Comes n) (λ (s : Spot). is_pinning s.standing ≡ false)
      (λ s come. false_from_ne_true (is_pinning s.standing) (λ t.
      let h = come.0 in
      let out = pinning-outside (in_range (regular h.ranges) s.number) (in_range (system h.ranges) s.number) (ap is_pinning (sym come.3) ∙ t) in
      free.inside s.number (record { host = h; there = come.1; has = come.2; not_regular = out.0; not_system = out.1 })))
      (spots_of rows n) (spots-come n)

  nowhere-regular : (n : List ℕ) → (IsSomewhereRegular tells hosts n → ⊥) → list_any (λ s. is_regular s.standing) (spots_of rows n) ≡ false
  nowhere-regular n nowhere = list_any_none (λ (s : Spot). is_regular s.standing) (spots_of rows n) (All-weaker (Comes n) (λ (s : Spot). is_regular s.standing ≡ false)
      (λ s come. false_from_ne_true (is_regular s.standing) (λ t.
      let h = come.0 in
      nowhere (record { host = h; there = come.1; number = s.number; has = come.2; is_regular = regular-in (in_range (regular h.ranges) s.number) (in_range (system h.ranges) s.number) (ap is_regular (sym come.3) ∙ t) })))
      (spots_of rows n) (spots-come n))

  somewhere-regular : (n : List ℕ) → IsSomewhereRegular tells hosts n → list_any (λ s. is_regular s.standing) (spots_of rows n) ≡ true
  somewhere-regular n some =
      let h = some.host in
      let at = told-row h n some.number some.there some.has in
      let r = row_at at.0 h n some.number in
      contains-any (λ (s : Spot). is_regular s.standing) (spots_of rows n) (spot_of r) (in-regular (in_range (regular h.ranges) some.number) (in_range (system h.ranges) some.number) some.is_regular) (spot-there rows r at.1)

  class-is : (j : ℕ) → j < length a.names → class_at a j ≡ class_by (sources_among (number_of pins (account a j).name) (spots_of rows (account a j).name)) (spots_of rows (account a j).name)
  class-is j less = ap (λ ss. class_by (sources_among (number_of pins (account a j).name) ss) ss) (account-spots rows j less)

  named-at : (n : List ℕ) → is_name a.names n ≡ true → (j : ℕ) × (j < length a.names) × ((account a j).name ≡ n)
  named-at n e = let at = any-there (λ (x : Account). bytes_eq n x.name) a.names no_account e in (at.0, at.1, sym (bytes_same n (account a at.0).name at.2))

  outside-named : (n : List ℕ) (w : ℕ) → IsOutside tells hosts n w → is_name a.names n ≡ true
  outside-named n w out = let at = told-row out.host n w out.there out.has in account-there rows (row_at at.0 out.host n w) at.1

  module _ (b : Accounts) (is : joined kind a ≡ Ok b) where
    unrefused : (first_some (disagrees kind a.hosts a.pins) a.names ≡ None) × (clash_of (claims a) ≡ None)
    unrefused =
        let none = (unless_ok (refusal kind a) a b is).0 in
        let agreed = none_of_both (first_some (disagrees kind a.hosts a.pins) a.names) _ none in
        let good = none_of_both (claim_fault kind a.reserved (claims a)) _ agreed.1 in
        (agreed.0, not-clashing kind a.reserved (claims a) good.0)

    agreed : (j : ℕ) → j < length a.names → disagreement (sources_among (number_of pins (account a j).name) (spots_of rows (account a j).name)) ≡ None
    agreed j less =
        let n = account a j in
        ap (λ ss. disagreement (sources_among (number_of pins n.name) ss)) (sym (account-spots rows j less))
        ∙ none-mapped (λ (d : Source × Source). PinDisagrees kind n.name (host_name a.hosts d.0) (host_name a.hosts d.1)) (disagreement (sources pins n)) (first-none (disagrees kind a.hosts a.pins) a.names j no_account unrefused.0 less)

    outside-class : (j w : ℕ) → j < length a.names → IsOutside tells hosts (account a j).name w → class_at a j ≡ Pinned w
    outside-class j w less out =
        let n = (account a j).name in
        let h = out.host in
        let at = told-row h n w out.there out.has in
        let r = row_at at.0 h n w in
        class-is j less
        ∙ pinning-class (number_of pins n) (spots_of rows n) (spot_of r) (agreed j less) (spot-there rows r at.1) (outside-pins (in_range (regular h.ranges) w) (in_range (system h.ranges) w) out.not_regular out.not_system)

    -- a name that is outside is so at one number, and the pins text gives it no other
    pub agree : PinsAgree tells hosts pins
    agree n v out =
        let j = named-at n (outside-named n v out) in
        let m = (account a j.0).name in
        let here = λ (w : ℕ) (o : IsOutside tells hosts n w). outside-class j.0 w j.1 (subst (λ k. IsOutside tells hosts k w) (sym j.2) o) in (
          λ w other. same_pin v w (sym (here v out) ∙ here w other),
          λ w e. same_pin v w (sym (here v out) ∙ class-is j.0 j.1 ∙ pin-class (number_of pins m) w (spots_of rows m) (ap (number_of pins) j.2 ∙ e)),
        )

    pub stands : StandWhereTheyMay tells hosts pins a
    stands i v less offered =
        let n = (account a i).name in
        let apart = unrefused.1 in
        let is_that : (j : ℕ) (other : List ℕ) → (account a j).name ≡ other → i ≡ j → other ≡ n = λ j other named same. sym named ∙ ap (λ k. (account a k).name) (sym same) in
        let class_free = λ (free : IsFree tells hosts pins n). class-is i less ∙ free-class (number_of pins n) (spots_of rows n) free.unpinned (unpinning n free) in
        record {
          pin_kept = λ w e. pinned-offered a i v offered w (class-is i less ∙ pin-class (number_of pins n) w (spots_of rows n) e);
          pin_is_no_others = λ other e. elim (cases_Bool (is_name a.names other)) [
            | inl there ↦
                let j = named-at other there in
                let m = (account a j.0).name in
                let pinned = class-is j.0 j.1 ∙ pin-class (number_of pins m) v (spots_of rows m) (ap (number_of pins) j.2 ∙ e) in
                is_that j.0 other j.2 (no-other a i v offered apart less j.0 j.1 pinned)
            | inr away ↦ absurd (no-absent a i v offered apart less other away e)
          ];
          outside_stays = λ w out. pinned-offered a i v offered w (outside-class i w less out);
          outside_is_no_others = λ other out.
              let j = named-at other (outside-named other v out) in
              let here : IsOutside tells hosts (account a j.0).name v = subst (λ m. IsOutside tells hosts m v) (sym j.2) out in
              is_that j.0 other j.2 (no-other a i v offered apart less j.0 j.1 (outside-class j.0 v j.1 here));
          regular = λ free some.
              let class : class_at a i ≡ Regular = class_free free ∙ ap (λ b. cond b Regular System) (somewhere-regular n some) in
              let pool = free-offered a i v offered Regular class (regular-free v) in
              all-mapped (λ (h : HostEntry). in_range h.regular v) (entry_on regular system) hosts (and_parts _ _ (and_parts _ _ pool).0).1;
          system = λ free nowhere.
              let class : class_at a i ≡ System = class_free free ∙ ap (λ b. cond b Regular System) (nowhere-regular n nowhere) in
              let pool = free-offered a i v offered System class (system-free v) in
              all-mapped (λ (h : HostEntry). in_range h.system v) (entry_on regular system) hosts (and_parts _ _ (and_parts _ _ pool).0).1;
        }

    module _ (i v : ℕ) (less : i < length a.names) (id : v ≤ 4294967294) (unreserved : is_reserved reserved v ≡ false) (distinct_pins : AreDistinct (map (λ p. p.name) pins)) (stand : StandsWhereItMay tells hosts pins (account a i).name v) where
      outside-at : (n : List ℕ) (s : Spot) → Contains (spots_of rows n) s → is_pinning s.standing ≡ true → IsOutside tells hosts n s.number
      outside-at n s there t =
          let come = All-contains (Comes n) (spots_of rows n) s (spots-come n) there in
          let h = come.0 in
          let out = pinning-outside (in_range (regular h.ranges) s.number) (in_range (system h.ranges) s.number) (ap is_pinning (sym come.3) ∙ t) in
          record { host = h; there = come.1; has = come.2; not_regular = out.0; not_system = out.1 }

      -- where the name is free, nobody is given the number
      untaken : IsFree tells hosts pins (account a i).name → is_taken (claims a) v ≡ false
      untaken free = list_any-append (λ (p : Pair). p.number == v) (pinned_names pins a.names) (absent_pins a.names pins) ∙ or_from _ _ (false_from_ne_true _ unpinned) (false_from_ne_true _ unclaimed)
        where
          pin-not : (other : List ℕ) → number_of pins other ≡ Some v → ⊥
          pin-not other e = some-none v (sym e ∙ ap (number_of pins) (stand.pin_is_no_others other e) ∙ free.unpinned)

          unpinned : is_taken (pinned_names pins a.names) v ≡ true → ⊥
          unpinned taken =
              let at = pinned-among pins a.names v taken in
              let m = (account a at.0).name in
              elim (pinned-by (number_of pins m) (spots_of rows m) v (sym (class-is at.0 at.1) ∙ at.2)) [
                | inl e ↦ pin-not m e
                | inr spot ↦
                    let out : IsOutside tells hosts m v = subst (λ w. IsOutside tells hosts m w) spot.3 (outside-at m spot.0 spot.1 spot.2) in
                    free.inside v (subst (λ k. IsOutside tells hosts k v) (stand.outside_is_no_others m out) out)
              ]

          unclaimed : is_taken (absent_pins a.names pins) v ≡ true → ⊥
          unclaimed taken =
              let pair = taken-kept (λ (p : Pair). p.number == v) (λ (p : Pair). not (is_name a.names p.name)) pins taken in
              pin-not pair.0.name (pair-number pins pair.0 distinct_pins pair.1 ∙ ap Some (eqb-true pair.0.number v pair.3))

      is-in-pool : (common : Bool) → common ≡ true → is_taken (claims a) v ≡ false → ((nat_le v 4294967294 && common) && not (is_taken (claims a) v || is_reserved reserved v)) ≡ true
      is-in-pool common all none = rw (le-leb v 4294967294 id, all, none, unreserved) refl

      free-pool : IsFree tells hosts pins (account a i).name → IsOffered a i v
      free-pool free =
          let n = (account a i).name in
          let class = class-is i less ∙ free-class (number_of pins n) (spots_of rows n) free.unpinned (unpinning n free) in
          elim (cases_Bool (list_any (λ (s : Spot). is_regular s.standing) (spots_of rows n))) [
            | inl some ↦
                let at = any-there (λ (s : Spot). is_regular s.standing) (spots_of rows n) no_spot some in
                let s = get_or (spots_of rows n) at.0 no_spot in
                let come = spots-come n at.0 no_spot at.1 in
                let h = come.0 in
                let there : IsSomewhereRegular tells hosts n = record { host = h; there = come.1; number = s.number; has = come.2; is_regular = regular-in (in_range (regular h.ranges) s.number) (in_range (system h.ranges) s.number) (ap is_regular (sym come.3) ∙ at.2) } in
                let is_class : class_at a i ≡ Regular = class ∙ ap (λ b. cond b Regular System) some in
                inr (ap (λ c. in_pool a c v) is_class ∙ is-in-pool _ (mapped-all (λ (h : HostEntry). in_range h.regular v) (entry_on regular system) hosts (stand.regular free there)) (untaken free))
            | inr none ↦
                let nowhere : IsSomewhereRegular tells hosts n → ⊥ = λ there. both_ways _ none (somewhere-regular n there) in
                let is_class : class_at a i ≡ System = class ∙ ap (λ b. cond b Regular System) none in
                inr (ap (λ c. in_pool a c v) is_class ∙ is-in-pool _ (mapped-all (λ (h : HostEntry). in_range h.system v) (entry_on regular system) hosts (stand.system free nowhere)) (untaken free))
          ]

      by-pin : (pin : Option ℕ) → number_of pins (account a i).name ≡ pin → IsOffered a i v
      by-pin (Some w) e =
          let n = (account a i).name in
          inl (class-is i less ∙ pin-class (number_of pins n) w (spots_of rows n) e ∙ ap Pinned (sym (stand.pin_kept w e)))
      by-pin None e =
          let n = (account a i).name in
          elim (cases_Bool (list_any (λ (s : Spot). is_pinning s.standing) (spots_of rows n))) [
            | inl some ↦
                let at = any-there (λ (s : Spot). is_pinning s.standing) (spots_of rows n) no_spot some in
                let s = get_or (spots_of rows n) at.0 no_spot in
                let out = outside-at n s (Contains-get_or (spots_of rows n) at.0 no_spot at.1) at.2 in
                inl (outside-class i s.number less out ∙ ap Pinned (sym (stand.outside_stays s.number out)))
            | inr none ↦ free-pool (record {
              unpinned = e;
              inside = λ w out.
                  let at = told-row out.host n w out.there out.has in
                  let r = row_at at.0 out.host n w in
                  let pins_it = outside-pins (in_range (regular out.host.ranges) w) (in_range (system out.host.ranges) w) out.not_regular out.not_system in
                  both_ways _ none (contains-any (λ (s : Spot). is_pinning s.standing) (spots_of rows n) (spot_of r) pins_it (spot-there rows r at.1));
            })
          ]

    pub all-offered : AreDistinct (map (λ p. p.name) pins) → AreAllOffered tells hosts pins reserved a
    all-offered distinct_pins i v less id unreserved stand = by-pin i v less id unreserved distinct_pins stand (number_of pins (account a i).name) refl

pub numbers_stand : NumbersStandWhereTheyMay
numbers_stand hosts pins site lawful is =
    let users = bind_ok (joined User (users_of hosts pins)) _ site is in
    let groups = bind_ok (joined Group (groups_of hosts pins)) _ site users.2 in
    subst (λ (s : Joined). StandWhereTheyMay of_users hosts pins.users s.users × StandWhereTheyMay of_groups hosts pins.groups s.groups) (site-is hosts pins site is) (
      stands User (λ (r : HostRanges). r.uid) (λ (r : HostRanges). r.sys_uid) (λ (h : Host). user_rows h.users) (λ (h : Host). user_at h.users) (λ h l. (user_rows-table h.users l.users).numbers_differ) (λ h v. told-by (λ (r : Passwd). r.name) (λ (r : Passwd). r.uid) v h.users) hosts lawful pins.users pins.reserved_users users.0 users.1,
      stands Group (λ (r : HostRanges). r.gid) (λ (r : HostRanges). r.sys_gid) (λ (h : Host). group_rows h.groups) (λ (h : Host). group_at h.groups) (λ h l. (group_rows-table h.groups l.groups).numbers_differ) (λ h v. told-by (λ (r : row.Group). r.name) (λ (r : row.Group). r.gid) v h.groups) hosts lawful pins.groups pins.reserved_groups groups.0 groups.1,
    )

pub numbers_offered : NumbersThatMayStandAreOffered
numbers_offered hosts pins site lawful are is =
    let users = bind_ok (joined User (users_of hosts pins)) _ site is in
    let groups = bind_ok (joined Group (groups_of hosts pins)) _ site users.2 in
    subst (λ (s : Joined). AreAllOffered of_users hosts pins.users pins.reserved_users s.users × AreAllOffered of_groups hosts pins.groups pins.reserved_groups s.groups) (site-is hosts pins site is) (
      all-offered User (λ (r : HostRanges). r.uid) (λ (r : HostRanges). r.sys_uid) (λ (h : Host). user_rows h.users) (λ (h : Host). user_at h.users) (λ h l. (user_rows-table h.users l.users).numbers_differ) (λ h v. told-by (λ (r : Passwd). r.name) (λ (r : Passwd). r.uid) v h.users) hosts lawful pins.users pins.reserved_users users.0 users.1 are.user_pins.names_differ,
      all-offered Group (λ (r : HostRanges). r.gid) (λ (r : HostRanges). r.sys_gid) (λ (h : Host). group_rows h.groups) (λ (h : Host). group_at h.groups) (λ h l. (group_rows-table h.groups l.groups).numbers_differ) (λ h v. told-by (λ (r : row.Group). r.name) (λ (r : row.Group). r.gid) v h.groups) hosts lawful pins.groups pins.reserved_groups groups.0 groups.1 are.group_pins.names_differ,
    )

pub pins_agree : DisagreeingPinsAreRefused
pins_agree hosts pins site lawful is =
    let users = bind_ok (joined User (users_of hosts pins)) _ site is in
    let groups = bind_ok (joined Group (groups_of hosts pins)) _ site users.2 in (
      agree User (λ (r : HostRanges). r.uid) (λ (r : HostRanges). r.sys_uid) (λ (h : Host). user_rows h.users) (λ (h : Host). user_at h.users) (λ h l. (user_rows-table h.users l.users).numbers_differ) (λ h v. told-by (λ (r : Passwd). r.name) (λ (r : Passwd). r.uid) v h.users) hosts lawful pins.users pins.reserved_users users.0 users.1,
      agree Group (λ (r : HostRanges). r.gid) (λ (r : HostRanges). r.sys_gid) (λ (h : Host). group_rows h.groups) (λ (h : Host). group_at h.groups) (λ h l. (group_rows-table h.groups l.groups).numbers_differ) (λ h v. told-by (λ (r : row.Group). r.name) (λ (r : row.Group). r.gid) v h.groups) hosts lawful pins.groups pins.reserved_groups groups.0 groups.1,
    )
