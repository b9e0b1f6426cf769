-- Accounts that were joined.
use Rattle.std.proofs.Common.{◌≡◌, ℕ, zero, suc, ◌+◌, ◌<◌, ◌≤◌, ◌==◌, Bool, true, false, not, cond, List, [], ◌∷◌, ◌++◌, length, map, get_or, Option, None, Some, Result, Ok, Err, refl, sym, ◌∙◌, ap, arith, inl, inr}
use Rattle.std.specs.List.{All, list_any, list_all, count_by, filter}
use Rattle.std.specs.Prelude.{IfSome, IfOk}
use Rattle.std.proofs.lemmas.List.Elements.{All-nil, All-cons, All-head, All-tail, All-append, All-map, All-filter, All-weaker}
use Rattle.std.specs.Option.{option_to_list}
use Rattle.std.specs.Str.{bytes_eq}
use Rattle.std.proofs.lemmas.Bool.{cases_Bool, and_parts, eqb-true, eq-eqb, both_ways, true≢false}
use Rattle.std.proofs.lemmas.List.{append_assoc, append-nil, get_or-map, length-map}
use Rattle.std.proofs.lemmas.List.Sums.{sum_by-append, sum_by-cons, sum_by_push}
use Rattle.logindefs.specs.Ranges.{in_range, AreApart}
use Rattle.logindefs.specs.declared.ranges.IdRange.{IdRange}
use Rattle.logindefs.specs.declared.ranges.HostRanges.{HostRanges}
use Rattle.idtext.specs.Names.{is_lawful_name}
use Rattle.hosts_join.specs.Accounts.{Account, Accounts, Pair, Row, grouped, first_appearances, spot_of, spots_of, no_account, all_lines, AreNamedApart, IsOnceEach, IsSpotAmong}
use Rattle.hosts_join.specs.Rules.{sources, sources_among, class_by, is_pinning, is_regular, joined, refusal, Clash, repeats, repeat_of, least, clash_of, claims, pinned_names, pinned_to, absent_pins, class_of, account}
use Rattle.hosts_join.specs.Lawful.{AreLawfulAccounts}
use Rattle.idtext.specs.First.{Gives, unless}
use Rattle.hosts_join.specs.Site.{entry_on}
use Rattle.hosts_join.specs.Hosts.{IsLawfulHost}
use Rattle.hosts_join.specs.Pairs.{number_of}
use Rattle.hosts_join.specs.PinPairs.{ArePins}
use Rattle.hosts_join.specs.Told.{told}
use Rattle.hosts_join.specs.declared.Which.{Which}
use Rattle.hosts_join.specs.declared.Spot.{Spot}
use Rattle.hosts_join.specs.declared.Source.{Source}
use Rattle.hosts_join.specs.declared.fault.SiteFault.{SiteFault}
use Rattle.hosts_join.proofs.Once.{IsOnceEach-spots_of}
use Rattle.hosts_join.proofs.Spots.{grouped-spots, spots_of-all}
use Rattle.hosts_join.specs.declared.Class.{Class}
use Rattle.hosts_join.specs.declared.Class.TheVariants.{Pinned, Regular, System}
use Rattle.hosts_join.specs.declared.host.Host.{Host}
use Rattle.hosts_join.proofs.Grouping.{AreNames, AreNames-first_appearances, bytes_refl, length-grouped}

-- how many of the claims have the number
abbrev pub count : ℕ → List Pair → ℕ
count v ps = count_by (λ p. p.number == v) ps

least-none : (cs : List Clash) → least cs ≡ None → cs ≡ []
unfolding least
least-none [] e = refl
least-none (c ∷ cs) e = (cc)

none-before : (before : List Pair) (p : Pair) → repeat_of before p ≡ [] → count p.number before ≡ 0
none-before [] p e = refl
none-before (q ∷ before) p e = elim (cases_Bool (q.number == p.number)) [
  | inl t ↦ let e' = rw t at e in absurd (full e')
  | inr f ↦ let e' = rw f at e in omega (arith, none-before before p e', sum_by-cons (λ (q : Pair). cond (q.number == p.number) 1 0) q before, ap (λ b. cond {A = ℕ} b 1 0) f)
]
  where
    full : {X : Type 0} {x : X} {xs : List X} → x ∷ xs ≡ [] → ⊥
    full e = (cc)

front-nil : {X : Type 0} (xs ys : List X) → xs ++ ys ≡ [] → (xs ≡ []) × (ys ≡ [])
front-nil [] ys e = (refl, e)
front-nil (x ∷ xs) ys e = absurd (full e)
  where
    full : {X : Type 0} {x : X} {xs : List X} → x ∷ xs ≡ [] → ⊥
    full e = (cc)

count-once : (v : ℕ) (before ps : List Pair) → repeats before ps ≡ [] → count v before ≤ 1 → count v (before ++ ps) ≤ 1
unfolding repeats
count-once v before [] e h = rw (append-nil before) h
count-once v before (p ∷ ps) e h =
    let parts = front-nil (repeat_of before p) (repeats (before ++ p ∷ []) ps) e in
    let push : count v (before ++ p ∷ []) ≡ count v before + cond (p.number == v) 1 0 = sum_by_push (λ (q : Pair). cond (q.number == v) 1 0) before p in
    let few : count v (before ++ p ∷ []) ≤ 1 = elim (cases_Bool (p.number == v)) [
      | inl t ↦ let none : count v before ≡ 0 = ap (λ n. count n before) (sym (eqb-true p.number v t)) ∙ none-before before p parts.0 in omega (arith, push, none, ap (λ b. cond {A = ℕ} b 1 0) t)
      | inr f ↦ omega (arith, push, h, ap (λ b. cond {A = ℕ} b 1 0) f)
    ] in
    let rest = count-once v (before ++ p ∷ []) ps parts.1 few in
    rw (sym (append_assoc before (p ∷ []) ps)) rest

-- a number is claimed once, by a pinned name or by one that is on no host
pub claims-apart : (v : ℕ) (a : Accounts) → clash_of (claims a) ≡ None → count v (pinned_names a.pins a.names) + count v (absent_pins a.names a.pins) ≤ 1
claims-apart v a e =
    let all = count-once v [] (claims a) (least-none (repeats [] (claims a)) e) (omega arith) in
    omega (arith, all, sum_by-append (λ (q : Pair). cond (q.number == v) 1 0) (pinned_names a.pins a.names) (absent_pins a.names a.pins))

pub claims-once : (v : ℕ) (a : Accounts) → clash_of (claims a) ≡ None → count v (pinned_names a.pins a.names) ≤ 1
claims-once v a e = omega (arith, claims-apart v a e)

module _ (pins : List Pair) (v : ℕ) where
  count-names : (n : Account) (ns : List Account) → count v (pinned_names pins (n ∷ ns)) ≡ count v (pinned_to (class_of pins n) n.name) + count v (pinned_names pins ns)
  count-names n ns = sum_by-append (λ (q : Pair). cond (q.number == v) 1 0) (pinned_to (class_of pins n) n.name) (pinned_names pins ns)

  count-one : (c : Class) (n : List ℕ) → c ≡ Pinned v → count v (pinned_to c n) ≡ 1
  count-one c n e = rw (e, eq-eqb v v refl) refl

  pub count-there : (ns : List Account) (i : ℕ) → i < length ns → class_of pins (get_or ns i no_account) ≡ Pinned v → 1 ≤ count v (pinned_names pins ns)
  count-there [] i h e = absurd (omega arith)
  count-there (n ∷ ns) zero h e = omega (arith, count-names n ns, count-one (class_of pins n) n.name e)
  count-there (n ∷ ns) (suc i) h e = omega (arith, count-names n ns, count-there ns i (omega arith) e)

  pub pins-once : (ns : List Account) (i j : ℕ) → count v (pinned_names pins ns) ≤ 1 → i < length ns → j < length ns → class_of pins (get_or ns i no_account) ≡ Pinned v → class_of pins (get_or ns j no_account) ≡ Pinned v → i ≡ j
  pins-once [] i j few hi hj ei ej = absurd (omega arith)
  pins-once (n ∷ ns) zero zero few hi hj ei ej = refl
  pins-once (n ∷ ns) zero (suc j) few hi hj ei ej = absurd (omega (arith, count-names n ns, count-one (class_of pins n) n.name ei, count-there ns j (omega arith) ej))
  pins-once (n ∷ ns) (suc i) zero few hi hj ei ej = absurd (omega (arith, count-names n ns, count-one (class_of pins n) n.name ej, count-there ns i (omega arith) ei))
  pins-once (n ∷ ns) (suc i) (suc j) few hi hj ei ej = ap suc (pins-once ns i j (omega (arith, count-names n ns)) (omega arith) (omega arith) ei ej)

not-there : (n : List ℕ) (ns : List (List ℕ)) (i : ℕ) → list_any (bytes_eq n) ns ≡ false → i < length ns → n ≡ get_or ns i [] → ⊥
not-there n [] i e h s = omega arith
not-there n (m ∷ ns) zero e h s = let e' = rw (ap (bytes_eq n) (sym s) ∙ bytes_refl n) at e in true≢false e'
not-there n (m ∷ ns) (suc i) e h s = elim (cases_Bool (bytes_eq n m)) [
  | inl t ↦ let e' = rw t at e in absurd (true≢false e')
  | inr f ↦ let e' = rw f at e in not-there n ns i e' (omega arith) s
]

names-once : (ns : List (List ℕ)) (i j : ℕ) → AreNames ns → i < length ns → j < length ns → get_or ns i [] ≡ get_or ns j [] → i ≡ j
unfolding AreNames
names-once [] i j a hi hj e = absurd (omega arith)
names-once (n ∷ ns) zero zero a hi hj e = refl
names-once (n ∷ ns) zero (suc j) a hi hj e = absurd (not-there n ns j a.0 (omega arith) e)
names-once (n ∷ ns) (suc i) zero a hi hj e = absurd (not-there n ns i a.0 (omega arith) (sym e))
names-once (n ∷ ns) (suc i) (suc j) a hi hj e = ap suc (names-once ns i j a.1 (omega arith) (omega arith) e)

grouped-differ : (rows : List Row) (i j : ℕ) → i < length (grouped rows) → j < length (grouped rows) → (get_or (grouped rows) i no_account).name ≡ (get_or (grouped rows) j no_account).name → i ≡ j
unfolding grouped
grouped-differ rows i j hi hj e =
    let ns = first_appearances (map (λ (r : Row). r.name) rows) in
    let f : List ℕ → Account = λ n. record { name = n; spots = spots_of rows n } in
    let li : i < length ns = omega (arith, length-map ns f) in
    let lj : j < length ns = omega (arith, length-map ns f) in
    let at_i = ap (λ (a : Account). a.name) (get_or-map f ns i [] no_account li) in
    let at_j = ap (λ (a : Account). a.name) (get_or-map f ns j [] no_account lj) in
    names-once ns i j (AreNames-first_appearances (map (λ (r : Row). r.name) rows)) li lj (sym at_i ∙ e ∙ at_j)

-- ---- names stay lawful

abbrev IsLawfulName : List ℕ → Type 0
IsLawfulName n = is_lawful_name n ≡ true

first-lawful : (ns : List (List ℕ)) → All IsLawfulName ns → All IsLawfulName (first_appearances ns)
unfolding first_appearances
first-lawful [] all = All-nil IsLawfulName
first-lawful (n ∷ ns) all =
    All-cons IsLawfulName n _ (All-head IsLawfulName n ns all)
    (All-filter (λ m. not (bytes_eq n m)) IsLawfulName (first_appearances ns) (first-lawful ns (All-tail IsLawfulName n ns all)))

grouped-lawful : (rows : List Row) → All (λ r. is_lawful_name r.name ≡ true) rows → All (λ x. is_lawful_name x.name ≡ true) (grouped rows)
unfolding grouped
grouped-lawful rows all =
    let f : List ℕ → Account = λ n. record { name = n; spots = spots_of rows n } in
    All-map (λ (x : Account). is_lawful_name x.name ≡ true) f (first_appearances (map (λ (r : Row). r.name) rows))
    (first-lawful (map (λ (r : Row). r.name) rows) (All-map IsLawfulName (λ (r : Row). r.name) rows all))

-- ---- a pin is an id

find-id : (n : List ℕ) (pairs : List Pair) → All (λ p. p.number ≤ 4294967294) pairs → IfSome (number_of pairs n) (λ v. v ≤ 4294967294)
find-id n [] all = tt
find-id n (p ∷ pairs) all = elim (cases_Bool (bytes_eq n p.name)) [
  | inl t ↦ rw t (All-head (λ (p : Pair). p.number ≤ 4294967294) p pairs all)
  | inr f ↦ rw f (find-id n pairs (All-tail (λ (p : Pair). p.number ≤ 4294967294) p pairs all))
]

abbrev IsIdSource : Source → Type 0
IsIdSource s = s.number ≤ 4294967294

sources-ids : (pin : Option ℕ) (spots : List Spot) (hosts : ℕ) → IfSome pin (λ v. v ≤ 4294967294) → All (IsSpotAmong hosts) spots → All IsIdSource (sources_among pin spots)
sources-ids pin spots hosts small all = All-append IsIdSource (map (λ v. record { host = None; number = v }) (option_to_list pin)) _ (text pin small)
    (All-map IsIdSource (λ (s : Spot). record { host = Some s.host; number = s.number }) (filter (λ (s : Spot). is_pinning s.standing) spots)
    (All-filter (λ (s : Spot). is_pinning s.standing) (λ s. s.number ≤ 4294967294) spots
    (All-weaker (IsSpotAmong hosts) (λ s. s.number ≤ 4294967294) (λ s among. among.1) spots all)))
  where
    text : (pin : Option ℕ) → IfSome pin (λ v. v ≤ 4294967294) → All IsIdSource (map (λ v. record { host = None; number = v }) (option_to_list pin))
    text None small = All-nil IsIdSource
    text (Some v) small = All-cons IsIdSource (record { host = None; number = v }) [] small (All-nil IsIdSource)

class-id : (ps : List Source) (spots : List Spot) (v : ℕ) → All IsIdSource ps → class_by ps spots ≡ Pinned v → v ≤ 4294967294
class-id [] spots v all e = absurd (free (list_any (λ (s : Spot). is_regular s.standing) spots) e)
  where
    free : (b : Bool) → cond b Regular System ≡ Pinned v → ⊥
    free true e = (cc)
    free false e = (cc)
class-id (p ∷ ps) spots v all e = let same : p.number ≡ v = pinned_same p.number v e in let small = All-head IsIdSource p ps all in omega (arith, same, small)
  where
    pinned_same : (a b : ℕ) → Pinned a ≡ Pinned b → a ≡ b
    pinned_same a b e = (cc)

module _ (a : Accounts) (rows : List Row) (e : a.names ≡ grouped rows) where
  of-rows : (P : List Spot → Type 0) → P [] → ((n : List ℕ) → P (spots_of rows n)) → (i : ℕ) → P (account a i).spots
  of-rows P none each i = rw e (grouped-spots P rows none each i)

  pub lawful : clash_of (claims a) ≡ None → AreNamedApart rows → All (λ r. is_lawful_name r.name ≡ true) rows → length rows ≤ 4194304 → all_lines a.names ≡ length rows → All (λ r. IsSpotAmong (length a.hosts) (spot_of r)) rows → ((n : List ℕ) → length (spots_of rows n) ≤ 64) → ArePins a.pins
      → ((v : ℕ) → list_all (λ h. in_range h.regular v) a.hosts ≡ true → list_all (λ h. in_range h.system v) a.hosts ≡ true → length rows ≡ 0) → AreLawfulAccounts a
  unfolding IsOnceEach
  lawful none named names few_rows lines among few pins apart =
      let spots : (i : ℕ) → All (IsSpotAmong (length a.hosts)) (account a i).spots = of-rows (λ ss. All (IsSpotAmong (length a.hosts)) ss) (All-nil (IsSpotAmong (length a.hosts))) (λ n. spots_of-all (IsSpotAmong (length a.hosts)) rows n among) in
      record {
        lawful = rw e (grouped-lawful rows names);
        few_names = omega (arith, ap length e, length-grouped rows);
        few_rows = omega (arith, lines);
        names_differ = λ i j hi hj s. grouped-differ rows i j (omega (arith, ap length e)) (omega (arith, ap length e)) (ap (λ (ns : List Account). (get_or ns i no_account).name) (sym e) ∙ s ∙ ap (λ (ns : List Account). (get_or ns j no_account).name) e);
        spots_among = spots;
        once = of-rows IsOnceEach tt (λ n. IsOnceEach-spots_of n rows named);
        few_spots = of-rows (λ ss. length ss ≤ 64) (omega arith) few;
        pin_ids = λ i v c. class-id (sources a.pins (account a i)) (account a i).spots v (sources-ids (number_of a.pins (account a i).name) (account a i).spots (length a.hosts) (find-id (account a i).name a.pins pins.ids) (spots i)) c;
        pins_differ = λ i j v hi hj ei ej. pins-once a.pins v a.names i j (claims-once v a none) hi hj ei ej;
        pools_apart = λ v r s.
            let r' = and_parts _ _ (and_parts _ _ r).0 in
            let s' = and_parts _ _ (and_parts _ _ s).0 in
            omega (arith, apart v r'.1 s'.1, ap length e, length-grouped rows);
      }

-- hosts whose ranges share no number: a number of all regular and all system ranges leaves no host
pub no-hosts : (regular system : HostRanges → IdRange) → ((h : Host) → IsLawfulHost h → AreApart (regular h.ranges) (system h.ranges)) → (v : ℕ) (hosts : List Host) → All IsLawfulHost hosts
    → list_all (λ h. in_range h.regular v) (map (entry_on regular system) hosts) ≡ true → list_all (λ h. in_range h.system v) (map (entry_on regular system) hosts) ≡ true → hosts ≡ []
no-hosts regular system apart v [] l r s = refl
no-hosts regular system apart v (h ∷ hosts) l r s = absurd (both_ways (in_range (system h.ranges) v) (apart h (All-head IsLawfulHost h hosts l) v (and_parts _ _ r).0) (and_parts _ _ s).0)

-- what is joined is what was given
pub joined-hosts : (kind : Which) (a : Accounts) (r : Result Accounts SiteFault) (n : ℕ) → Gives (λ x. x) told r (joined kind a) → length a.hosts ≡ n → IfOk r (λ names. length names.hosts ≡ n)
joined-hosts kind a (Err e) n gives is = tt
joined-hosts kind a (Ok x) n gives is = sym (ap (λ (b : Accounts). length b.hosts) (passed (refusal kind a) gives)) ∙ is
  where
    passed : (o : Option SiteFault) → unless o a ≡ Ok x → a ≡ x
    passed None e = (cc)
    passed (Some f) e = absurd (cc)
