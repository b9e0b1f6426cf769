-- The rows of hosts, and the tables that they come from.
use Rattle.std.proofs.Common.{◌≡◌, ℕ, zero, suc, ◌+◌, ◌<◌, ◌==◌, Bool, true, false, List, [], ◌∷◌, length, map, get_or, Option, Some, refl, sym, ◌∙◌, ap, subst, arith, inl, inr}
use Rattle.std.specs.List.{All, Contains, list_any, find, filter}
use Rattle.std.specs.Option.{option_map}
use Rattle.std.specs.Str.{bytes_eq}
use Rattle.std.proofs.lemmas.Bool.{cases_Bool, false_from_ne_true, or_left, or_right, eq-eqb, eqb-true}
use Rattle.std.proofs.lemmas.List.{get_or-map, length-map}
use Rattle.std.proofs.lemmas.List.Elements.{All-nil, All-cons, All-head, All-tail, All-append, All-map, Contains-append_left, Contains-append_right}
use Rattle.std.proofs.lemmas.Option.{same_Some}
use Rattle.accounts.specs.Laws.{AreDistinct}
use Rattle.accounts.proofs.ListLemmas.{list_any-map}
use Rattle.logindefs.specs.declared.ranges.IdRange.{IdRange}
use Rattle.hosts_join.specs.declared.Spot.{Spot}
use Rattle.hosts_join.specs.Accounts.{Account, Row, host_rows, rows_from, first_appearances, spot_of, spots_of, grouped, standing_on, no_account}
use Rattle.hosts_join.proofs.Grouping.{bytes_same, bytes_refl, any-first_appearances}
use Rattle.hosts_join.proofs.KindLemmas.{AreDistinct-tail}
use Rattle.hosts_join.proofs.Knowing.{twice}

-- ---- lists

pub contains-map : {X Y : Type 0} (f : X → Y) (xs : List X) (x : X) → Contains xs x → Contains (map f xs) (f x)
contains-map f xs x c = let lt = c.1 in (c.0, omega (arith, length-map xs f), get_or-map f xs c.0 x (f x) c.1 ∙ ap f c.2)

pub contains-filter : {X : Type 0} (p : X → Bool) (xs : List X) (x : X) → p x ≡ true → Contains xs x → Contains (filter p xs) x
contains-filter p [] x t c = let lt = c.1 in absurd (omega (arith, lt))
contains-filter p (y ∷ xs) x t (zero, lt, e) = let t' : p y ≡ true = ap p e ∙ t in rw t' (0, omega arith, e)
contains-filter p (y ∷ xs) x t (suc i, lt, e) =
    let rest = contains-filter p xs x t (i, omega arith, e) in
    let less = rest.1 in
    elim (cases_Bool (p y)) [ inl it ↦ rw it (suc rest.0, omega arith, rest.2) | inr away ↦ rw away rest ]

pub contains-any : {X : Type 0} (p : X → Bool) (xs : List X) (x : X) → p x ≡ true → Contains xs x → list_any p xs ≡ true
contains-any p [] x t c = let lt = c.1 in absurd (omega (arith, lt))
contains-any p (y ∷ xs) x t (zero, lt, e) = or_left (p y) (list_any p xs) (ap p e ∙ t)
contains-any p (y ∷ xs) x t (suc i, lt, e) = or_right (p y) (list_any p xs) (contains-any p xs x t (i, omega arith, e))

pub any-there : {X : Type 0} (p : X → Bool) (xs : List X) (d : X) → list_any p xs ≡ true → (i : ℕ) × (i < length xs) × (p (get_or xs i d) ≡ true)
any-there p [] d h = absurd (cc)
any-there p (x ∷ xs) d h = elim (cases_Bool (p x)) [
  | inl it ↦ (0, omega arith, it)
  | inr away ↦ let rest = any-there p xs d (rw away at h) in let less = rest.1 in (suc rest.0, omega arith, rest.2)
]

-- ---- a table of names with their numbers

-- the name that it gives a number
abbrev pub name_in : List (List ℕ × ℕ) → ℕ → Option (List ℕ)
name_in pairs v = option_map (λ (p : List ℕ × ℕ). p.0) (find (λ p. v == p.1) pairs)

-- a number with a name has a row
pub row-there : (v : ℕ) (n : List ℕ) (pairs : List (List ℕ × ℕ)) → name_in pairs v ≡ Some n → Contains pairs (n, v)
row-there v n [] e = absurd (cc)
row-there v n (p ∷ pairs) e = elim (cases_Bool (v == p.1)) [
  | inl it ↦
      let e' = rw it at e in
      let named : p.0 ≡ n = same_Some p.0 n e' in
      let numbered : p.1 ≡ v = sym (eqb-true v p.1 it) in
      (0, omega arith, λ i. (named i, numbered i))
  | inr away ↦ let rest = row-there v n pairs (rw away at e) in let less = rest.1 in (suc rest.0, omega arith, rest.2)
]

-- where numbers differ, each row's name is that of its number
pub rows-named : (pairs : List (List ℕ × ℕ)) → AreDistinct (map (λ p. p.1) pairs) → All (λ p. name_in pairs p.1 ≡ Some p.0) pairs
rows-named [] apart = All-nil (λ (p : List ℕ × ℕ). name_in [] p.1 ≡ Some p.0)
rows-named (p ∷ pairs) apart =
    All-cons (λ (q : List ℕ × ℕ). name_in (p ∷ pairs) q.1 ≡ Some q.0) p pairs (rw (eq-eqb p.1 p.1 refl) refl)
    (λ k d l.
    let q = get_or pairs k d in
    let away : (q.1 == p.1) ≡ false = false_from_ne_true (q.1 == p.1) (λ it. twice q.1 k p d pairs apart l (eq-eqb q.1 q.1 refl) it) in
    let rest : name_in pairs q.1 ≡ Some q.0 = rows-named pairs (AreDistinct-tail p.1 (map (λ (p : List ℕ × ℕ). p.1) pairs) apart) k d l in
    rw away rest)

-- ---- the rows of hosts

abbrev pub row_on : ℕ → IdRange → IdRange → List ℕ × ℕ → Row
row_on place regular system p = record { host = place; name = p.0; number = p.1; standing = standing_on regular system p.1 }

module _ {H : Type 0} (regular system : H → IdRange) (pairs : H → List (List ℕ × ℕ)) where
  pub rows-all : (Q : Row → Type 0) (place : ℕ) (hs : List H) → ((place : ℕ) (h : H) → Contains hs h → All (λ p. Q (row_on place (regular h) (system h) p)) (pairs h)) → All Q (rows_from regular system pairs place hs)
  rows-all Q place [] each = All-nil Q
  rows-all Q place (h ∷ hs) each =
      All-append Q (host_rows place (regular h) (system h) (pairs h)) (rows_from regular system pairs (place + 1) hs)
      (All-map Q (row_on place (regular h) (system h)) (pairs h) (each place h (0, omega arith, refl)))
      (rows-all Q (place + 1) hs (λ at x c. let less = c.1 in each at x (suc c.0, omega arith, c.2)))

  pub row-among : (place : ℕ) (hs : List H) (h : H) (p : List ℕ × ℕ) → Contains hs h → Contains (pairs h) p → (at : ℕ) × Contains (rows_from regular system pairs place hs) (row_on at (regular h) (system h) p)
  row-among place [] h p c r = let less = c.1 in absurd (omega (arith, less))
  row-among place (x ∷ hs) h p (zero, lt, e) r = (
    place,
    subst (λ (y : H). Contains (rows_from regular system pairs place (y ∷ hs)) (row_on place (regular h) (system h) p)) (sym e)
        (Contains-append_left (host_rows place (regular h) (system h) (pairs h)) (rows_from regular system pairs (place + 1) hs) (row_on place (regular h) (system h) p)
        (contains-map (row_on place (regular h) (system h)) (pairs h) p r)),
  )
  row-among place (x ∷ hs) h p (suc i, lt, e) r =
      let rest = row-among (place + 1) hs h p (i, omega arith, e) r in
      (rest.0, Contains-append_right (host_rows place (regular x) (system x) (pairs x)) (rows_from regular system pairs (place + 1) hs) (row_on rest.0 (regular h) (system h) p) rest.1)

-- ---- the spots of names

-- a row is a spot of its name
pub spot-there : (rows : List Row) (r : Row) → Contains rows r → Contains (spots_of rows r.name) (spot_of r)
unfolding spots_of
spot-there rows r c = contains-map spot_of (filter (λ (q : Row). bytes_eq r.name q.name) rows) r (contains-filter (λ (q : Row). bytes_eq r.name q.name) rows r (bytes_refl r.name) c)

-- what holds of the rows with their names holds of the spots of a name
pub spots-named : (P : List ℕ → Spot → Type 0) (rows : List Row) (n : List ℕ) → All (λ r. P r.name (spot_of r)) rows → All (P n) (spots_of rows n)
unfolding spots_of
spots-named P [] n all = All-nil (P n)
spots-named P (r ∷ rows) n all =
    let rest = spots-named P rows n (All-tail (λ (r : Row). P r.name (spot_of r)) r rows all) in
    elim (cases_Bool (bytes_eq n r.name)) [
      | inl same ↦
          let here : P n (spot_of r) = subst (λ m. P m (spot_of r)) (sym (bytes_same n r.name same)) (All-head (λ (r : Row). P r.name (spot_of r)) r rows all) in
          rw same (All-cons (P n) (spot_of r) (map spot_of (filter (λ (r : Row). bytes_eq n r.name) rows)) here rest)
      | inr other ↦ rw other rest
    ]

-- an account has the spots of its name
pub account-spots : (rows : List Row) (i : ℕ) → i < length (grouped rows) → (get_or (grouped rows) i no_account).spots ≡ spots_of rows (get_or (grouped rows) i no_account).name
unfolding grouped
account-spots rows i less =
    let ns = first_appearances (map (λ (r : Row). r.name) rows) in
    let f : List ℕ → Account = λ n. record { name = n; spots = spots_of rows n } in
    let at = get_or-map f ns i [] no_account (omega (arith, length-map ns f)) in
    ap (λ (a : Account). a.spots) at ∙ ap (spots_of rows) (sym (ap (λ (a : Account). a.name) at))

-- the name of a row is that of an account
pub account-there : (rows : List Row) (r : Row) → Contains rows r → list_any (λ a. bytes_eq r.name a.name) (grouped rows) ≡ true
unfolding grouped
account-there rows r c =
    let names = map (λ (r : Row). r.name) rows in
    list_any-map (λ (a : Account). bytes_eq r.name a.name) (λ n. record { name = n; spots = spots_of rows n }) (first_appearances names)
    ∙ any-first_appearances r.name names
    ∙ contains-any (bytes_eq r.name) names r.name (bytes_refl r.name) (contains-map (λ (q : Row). q.name) rows r c)
