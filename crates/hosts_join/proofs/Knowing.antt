-- Joined accounts know the rows of each host.
use Rattle.std.proofs.Common.{◌≡◌, ℕ, zero, suc, ◌+◌, ◌<◌, ◌&&◌, ◌||◌, ◌==◌, Bool, true, false, cond, List, [], ◌∷◌, length, map, get_or, Option, Some, None, Ok, refl, sym, ◌∙◌, ap, subst, arith, inl, inr}
use Rattle.std.specs.Prelude.{slice_get}
use Rattle.std.specs.List.{All, list_any, find}
use Rattle.std.specs.Option.{option_map}
use Rattle.std.specs.Str.{bytes_eq}
use Rattle.std.proofs.Math.Bool.{or-false}
use Rattle.std.proofs.lemmas.Bool.{cases_Bool, both_ways, or_left, or_right, or_from, and_parts, and_left, and_right, eqb-true, eq-eqb, ne_eqb, false≢true}
use Rattle.std.proofs.lemmas.List.Elements.{All-nil, All-cons, All-head, All-tail, All-append, All-map}
use Rattle.std.proofs.lemmas.List.{get_or-map, length-map}
use Rattle.std.proofs.lemmas.List.Folds.{list_any-append}
use Rattle.std.proofs.lemmas.Option.{same_Some, slice_get_within, get_or_from_slice_get}
use Rattle.idtext.proofs.OkLemmas.{bind_ok, ok_same, unless_ok}
use Rattle.accounts.specs.Laws.{AreDistinct}
use Rattle.accounts.specs.Rows.{Passwd}
use Rattle.accounts.specs.Rows as row
use Rattle.logindefs.specs.declared.ranges.IdRange.{IdRange}
use Rattle.hosts_join.specs.Accounts.{Account, Accounts, Row, host_rows, rows_from, first_appearances, spots_of, grouped, has_number, place, standing_on}
use Rattle.hosts_join.specs.Kinds.{user_at, group_at, user_rows, group_rows, user_rows-table, group_rows-table}
use Rattle.hosts_join.specs.Laws.{IsOwnedAsTold, KnowsHost, KnowsItsHosts, JoinedSitesKnowTheirHosts}
use Rattle.hosts_join.specs.Rules.{joined, refusal}
use Rattle.hosts_join.specs.Site.{Joined, users_of, groups_of, joined_site}
use Rattle.hosts_join.specs.PinPairs.{PinPairs}
use Rattle.hosts_join.specs.declared.Which.{Which}
use Rattle.hosts_join.specs.declared.Which.TheVariants.{User, Group}
use Rattle.hosts_join.specs.declared.host.Host.{Host}
use Rattle.hosts_join.proofs.Grouping.{bytes_refl, bytes_sym, any-first_appearances, unowned}

-- the row has the number on the host
abbrev is_at : ℕ → ℕ → Row → Bool
is_at h v r = (h == r.host) && (v == r.number)

-- the row has the name, if it has the number on the host
abbrev IsNamed : ℕ → ℕ → List ℕ → Row → Type 0
IsNamed h v n r = is_at h v r ≡ true → r.name ≡ n

-- where all such rows have one name, the accounts with the number are those of the name
spots-at : (h v : ℕ) (n m : List ℕ) (rows : List Row) → All (IsNamed h v n) rows → list_any (λ s. (h == s.host) && (v == s.number)) (spots_of rows m) ≡ (bytes_eq m n && list_any (is_at h v) rows)
unfolding spots_of
spots-at h v n m [] named = sym (and_right (bytes_eq m n) false refl)
spots-at h v n m (r ∷ rows) named =
    let rest = spots-at h v n m rows (All-tail (IsNamed h v n) r rows named) in
    let here = All-head (IsNamed h v n) r rows named in
    elim (cases_Bool (bytes_eq m r.name)) [
      | inl same ↦ elim (cases_Bool (is_at h v r)) [
        | inl it ↦ let is_n : bytes_eq m n ≡ true = ap (bytes_eq m) (sym (here it)) ∙ same in rw (same, it, is_n) refl
        | inr away ↦ rw (same, away) rest
      ]
      | inr other ↦ elim (cases_Bool (is_at h v r)) [
        | inl it ↦ let not_n : bytes_eq m n ≡ false = ap (bytes_eq m) (sym (here it)) ∙ other in rw (other, not_n) (rest ∙ ap (λ b. b && list_any (is_at h v) rows) not_n)
        | inr away ↦ rw (other, away) rest
      ]
    ]

place-map : {X Y : Type 0} (p : Y → Bool) (f : X → Y) (xs : List X) → place p (map f xs) ≡ place (λ x. p (f x)) xs
place-map p f [] = refl
place-map p f (x ∷ xs) = ap (λ o. cond (p (f x)) (Some 0) (option_map suc o)) (place-map p f xs)

place-same : {X : Type 0} (p q : X → Bool) (xs : List X) → ((x : X) → p x ≡ q x) → place p xs ≡ place q xs
place-same p q [] same = refl
place-same p q (x ∷ xs) same = ap (λ b. cond b (Some 0) (option_map suc (place p xs))) (same x) ∙ ap (λ o. cond (q x) (Some 0) (option_map suc o)) (place-same p q xs same)

place-some : {X : Type 0} (p : X → Bool) (xs : List X) → list_any p xs ≡ true → (i : ℕ) × (place p xs ≡ Some i)
place-some p [] h = absurd (false≢true h)
place-some p (x ∷ xs) h = elim (cases_Bool (p x)) [
  | inl it ↦ (0, rw it refl)
  | inr away ↦ let rest = place-some p xs (rw away at h) in (suc rest.0, rw (away, rest.1) refl)
]

-- the name is among those of the rows
name-there : (h v : ℕ) (n : List ℕ) (rows : List Row) → All (IsNamed h v n) rows → list_any (is_at h v) rows ≡ true → list_any (bytes_eq n) (map (λ r. r.name) rows) ≡ true
name-there h v n [] named there = there
name-there h v n (r ∷ rows) named there = elim (cases_Bool (is_at h v r)) [
  | inl it ↦ or_left (bytes_eq n r.name) (list_any (bytes_eq n) (map (λ r. r.name) rows)) (ap (bytes_eq n) (All-head (IsNamed h v n) r rows named it) ∙ bytes_refl n)
  | inr away ↦ or_right (bytes_eq n r.name) (list_any (bytes_eq n) (map (λ r. r.name) rows)) (name-there h v n rows (All-tail (IsNamed h v n) r rows named) (rw away at there))
]

rows-know : (h v : ℕ) (n : List ℕ) (rows : List Row) → All (IsNamed h v n) rows → list_any (is_at h v) rows ≡ true → IsOwnedAsTold (grouped rows) h v (Some n)
unfolding grouped
rows-know h v n rows named there =
    let f : List ℕ → Account = λ m. record { name = m; spots = spots_of rows m } in
    let names = map (λ (r : Row). r.name) rows in
    let firsts = first_appearances names in
    let found = place-some (bytes_eq n) firsts (any-first_appearances n names ∙ name-there h v n rows named there) in
    let same = place-same (λ m. has_number h v (f m)) (bytes_eq n) firsts (λ m. spots-at h v n m rows named ∙ ap (λ b. bytes_eq m n && b) there ∙ and_true (bytes_eq m n) ∙ bytes_sym m n) in
    (found.0, place-map (has_number h v) f firsts ∙ same ∙ found.1, place-map (λ a. bytes_eq n a.name) f firsts ∙ found.1)
  where
    and_true : (b : Bool) → (b && true) ≡ b
    and_true true = refl
    and_true false = refl

-- ---- a table of names with their numbers

pub twice : (v k : ℕ) (p d : List ℕ × ℕ) (ps : List (List ℕ × ℕ)) → AreDistinct (map (λ q. q.1) (p ∷ ps)) → k < length ps → (v == (get_or ps k d).1) ≡ true → (v == p.1) ≡ true → ⊥
twice v k p d ps apart l e it =
    let same : p.1 ≡ get_or (map (λ (q : List ℕ × ℕ). q.1) ps) k 0 = sym (eqb-true v p.1 it) ∙ eqb-true v _ e ∙ sym (get_or-map (λ (q : List ℕ × ℕ). q.1) ps k d 0 l) in
    let z : 0 ≡ suc k = apart 0 (suc k) 0 (omega arith) (omega (arith, length-map ps (λ (q : List ℕ × ℕ). q.1))) same in
    omega (arith, z)

-- the rows with a number have the name that the table gives it, and there is one
table-says : (v : ℕ) (n : List ℕ) (ps : List (List ℕ × ℕ)) → AreDistinct (map (λ p. p.1) ps) → option_map (λ (p : List ℕ × ℕ). p.0) (find (λ p. v == p.1) ps) ≡ Some n → All (λ p. (v == p.1) ≡ true → p.0 ≡ n) ps × (list_any (λ p. v == p.1) ps ≡ true)
table-says v n [] apart is = absurd (cc)
table-says v n (p ∷ ps) apart is = elim (cases_Bool (v == p.1)) [
  | inl it ↦
      let is' = rw it at is in
      let named : p.0 ≡ n = same_Some p.0 n is' in (
        All-cons (λ (q : List ℕ × ℕ). (v == q.1) ≡ true → q.0 ≡ n) p ps (λ e. named) (λ k d l e. absurd (twice v k p d ps apart l e it)),
        or_left (v == p.1) (list_any (λ (q : List ℕ × ℕ). v == q.1) ps) it,
      )
  | inr away ↦
      let rest = table-says v n ps (λ i j d hi hj e. let s : suc i ≡ suc j = apart (suc i) (suc j) d (omega arith) (omega arith) e in omega arith) (rw away at is) in (
        All-cons (λ (q : List ℕ × ℕ). (v == q.1) ≡ true → q.0 ≡ n) p ps (λ e. absurd (both_ways (v == p.1) away e)) rest.0,
        or_right (v == p.1) (list_any (λ (q : List ℕ × ℕ). v == q.1) ps) rest.1,
      )
]

none-there : (v : ℕ) (ps : List (List ℕ × ℕ)) → option_map (λ (p : List ℕ × ℕ). p.0) (find (λ p. v == p.1) ps) ≡ None → list_any (λ (p : List ℕ × ℕ). v == p.1) ps ≡ false
none-there v [] is = refl
none-there v (p ∷ ps) is = elim (cases_Bool (v == p.1)) [
  | inl it ↦ let is' = rw it at is in absurd (full p.0 is')
  | inr away ↦ or_from (v == p.1) _ away (none-there v ps (rw away at is))
]
  where
    full : (n : List ℕ) → Some n ≡ None → ⊥
    full n e = cc

-- a table by its rows, and by its names with their numbers
pub told-by : {X : Type 0} (name : X → List ℕ) (number : X → ℕ) (v : ℕ) (xs : List X) → option_map (λ (p : List ℕ × ℕ). p.0) (find (λ p. v == p.1) (map (λ x. (name x, number x)) xs)) ≡ option_map name (find (λ x. v == number x) xs)
told-by name number v [] = refl
told-by name number v (x ∷ xs) = elim (cases_Bool (v == number x)) [ inl t ↦ rw t refl | inr f ↦ rw f (told-by name number v xs) ]

-- ---- the rows of hosts

abbrev row_on : ℕ → IdRange → IdRange → List ℕ × ℕ → Row
row_on place regular system p = record { host = place; name = p.0; number = p.1; standing = standing_on regular system p.1 }

host-at : (h v place : ℕ) (r s : IdRange) (pairs : List (List ℕ × ℕ)) → list_any (is_at h v) (host_rows place r s pairs) ≡ ((h == place) && list_any (λ p. v == p.1) pairs)
host-at h v place r s [] = sym (and_right (h == place) false refl)
host-at h v place r s (p ∷ pairs) = rw (host-at h v place r s pairs) (elim (cases_Bool (h == place)) [ inl t ↦ rw t refl | inr f ↦ rw f refl ])

host-named : (h v place : ℕ) (n : List ℕ) (r s : IdRange) (pairs : List (List ℕ × ℕ)) → (h ≡ place → All (λ p. (v == p.1) ≡ true → p.0 ≡ n) pairs) → All (IsNamed h v n) (host_rows place r s pairs)
host-named h v place n r s pairs named = All-map (IsNamed h v n) (row_on place r s) pairs (λ k d l it. let parts = and_parts _ _ it in named (eqb-true h place parts.0) k d l parts.1)

module _ {H : Type 0} (regular system : H → IdRange) (pairs : H → List (List ℕ × ℕ)) where
  abbrev all_from : ℕ → List H → List Row
  all_from = rows_from regular system pairs

  later-at : (h v start : ℕ) (hosts : List H) → h < start → list_any (is_at h v) (all_from start hosts) ≡ false
  later-at h v start [] less = refl
  later-at h v start (x ∷ hosts) less =
      list_any-append (is_at h v) (host_rows start (regular x) (system x) (pairs x)) (all_from (start + 1) hosts)
      ∙ or_from _ _ (host-at h v start (regular x) (system x) (pairs x) ∙ and_left (h == start) _ (ne_eqb h start (λ e. omega arith))) (later-at h v (start + 1) hosts (omega arith))

  later-named : (h v start : ℕ) (n : List ℕ) (hosts : List H) → h < start → All (IsNamed h v n) (all_from start hosts)
  later-named h v start n [] less = All-nil (IsNamed h v n)
  later-named h v start n (x ∷ hosts) less =
      All-append (IsNamed h v n) (host_rows start (regular x) (system x) (pairs x)) (all_from (start + 1) hosts)
      (host-named h v start n (regular x) (system x) (pairs x) (λ e. absurd (omega arith)))
      (later-named h v (start + 1) n hosts (omega arith))

  -- a number is in a row of the host that stands at the place, or in none
  rows-at : (h v start k : ℕ) (hosts : List H) (host : H) → slice_get hosts k ≡ Some host → h ≡ start + k → list_any (is_at h v) (all_from start hosts) ≡ list_any (λ p. v == p.1) (pairs host)
  rows-at h v start k [] host here at = absurd (cc)
  rows-at h v start zero (x ∷ hosts) host here at =
      let same : x ≡ host = same_Some x host here in
      list_any-append (is_at h v) (host_rows start (regular x) (system x) (pairs x)) (all_from (start + 1) hosts)
      ∙ ap (λ b. list_any (is_at h v) (host_rows start (regular x) (system x) (pairs x)) || b) (later-at h v (start + 1) hosts (omega (arith, at)))
      ∙ or-false _
      ∙ host-at h v start (regular x) (system x) (pairs x)
      ∙ ap (λ b. b && list_any (λ p. v == p.1) (pairs x)) (eq-eqb h start (omega (arith, at)))
      ∙ ap (λ y. list_any (λ p. v == p.1) (pairs y)) same
  rows-at h v start (suc k) (x ∷ hosts) host here at =
      list_any-append (is_at h v) (host_rows start (regular x) (system x) (pairs x)) (all_from (start + 1) hosts)
      ∙ ap (λ b. b || list_any (is_at h v) (all_from (start + 1) hosts)) (host-at h v start (regular x) (system x) (pairs x) ∙ and_left (h == start) _ (ne_eqb h start (λ e. omega (arith, at))))
      ∙ rows-at h v (start + 1) k hosts host here (omega (arith, at))

  rows-named : (h v start k : ℕ) (n : List ℕ) (hosts : List H) (host : H) → slice_get hosts k ≡ Some host → h ≡ start + k → All (λ p. (v == p.1) ≡ true → p.0 ≡ n) (pairs host) → All (IsNamed h v n) (all_from start hosts)
  rows-named h v start k n [] host here at named = absurd (cc)
  rows-named h v start zero n (x ∷ hosts) host here at named =
      let same : host ≡ x = same_Some host x (sym here) in
      All-append (IsNamed h v n) (host_rows start (regular x) (system x) (pairs x)) (all_from (start + 1) hosts)
      (host-named h v start n (regular x) (system x) (pairs x) (λ e. subst (λ y. All (λ p. (v == p.1) ≡ true → p.0 ≡ n) (pairs y)) same named))
      (later-named h v (start + 1) n hosts (omega (arith, at)))
  rows-named h v start (suc k) n (x ∷ hosts) host here at named =
      All-append (IsNamed h v n) (host_rows start (regular x) (system x) (pairs x)) (all_from (start + 1) hosts)
      (host-named h v start n (regular x) (system x) (pairs x) (λ e. absurd (omega (arith, e, at))))
      (rows-named h v (start + 1) k n hosts host here (omega (arith, at)) named)

  -- what is told of a number by the host's own rows is so for all
  pub host-known : (h v : ℕ) (hosts : List H) (host : H) (told : Option (List ℕ)) → slice_get hosts h ≡ Some host → AreDistinct (map (λ p. p.1) (pairs host)) → option_map (λ p. p.0) (find (λ p. v == p.1) (pairs host)) ≡ told → IsOwnedAsTold (grouped (all_from 0 hosts)) h v told
  host-known h v hosts host (Some n) here apart is =
      let facts = table-says v n (pairs host) apart is in
      rows-know h v n (all_from 0 hosts) (rows-named h v 0 h n hosts host here (omega arith) facts.0) (rows-at h v 0 h hosts host here (omega arith) ∙ facts.1)
  host-known h v hosts host None here apart is = unowned (all_from 0 hosts) h v (rows-at h v 0 h hosts host here (omega arith) ∙ none-there v (pairs host) is)

pub joined-is : (kind : Which) (a b : Accounts) → joined kind a ≡ Ok b → a ≡ b
joined-is kind a b e = (unless_ok (refusal kind a) a b e).1

-- the accounts that a site was joined from
pub site-is : (hosts : List Host) (pins : PinPairs) (site : Joined) → joined_site hosts pins ≡ Ok site → record { users = users_of hosts pins; groups = groups_of hosts pins; hosts = length hosts } ≡ site
site-is hosts pins site is =
    let users = bind_ok (joined User (users_of hosts pins)) _ site is in
    let groups = bind_ok (joined Group (groups_of hosts pins)) _ site users.2 in
    let made : Joined = record { users = users.0; groups = groups.0; hosts = length hosts } in
    let all : made ≡ site = ok_same made site groups.2 in
    let u = joined-is User (users_of hosts pins) users.0 users.1 in
    let g = joined-is Group (groups_of hosts pins) groups.0 groups.1 in
    (λ i. record { users = u i; groups = g i; hosts = length hosts }) ∙ all

-- the numbers of a host's tables, where they are distinct, are all that is asked
pub hosts-known : (hosts : List Host) (pins : PinPairs) (site : Joined) → All (λ host. AreDistinct (map (λ p. p.1) (user_rows host.users)) × AreDistinct (map (λ p. p.1) (group_rows host.groups))) hosts → joined_site hosts pins ≡ Ok site → KnowsItsHosts hosts site
hosts-known hosts pins site apart is =
    let tables = λ (h : ℕ) (host : Host) (here : slice_get hosts h ≡ Some host).
    subst (λ (x : Host). AreDistinct (map (λ (p : List ℕ × ℕ). p.1) (user_rows x.users)) × AreDistinct (map (λ (p : List ℕ × ℕ). p.1) (group_rows x.groups))) (get_or_from_slice_get hosts h host host here) (apart h host (slice_get_within hosts h host here)) in
    λ h host here. subst (λ (s : Joined). KnowsHost s h host) (site-is hosts pins site is) (record {
      users = λ uid. host-known (λ (x : Host). x.ranges.uid) (λ (x : Host). x.ranges.sys_uid) (λ (x : Host). user_rows x.users) h uid hosts host (user_at host.users uid) here (tables h host here).0 (told-by (λ (r : Passwd). r.name) (λ (r : Passwd). r.uid) uid host.users);
      groups = λ gid. host-known (λ (x : Host). x.ranges.gid) (λ (x : Host). x.ranges.sys_gid) (λ (x : Host). group_rows x.groups) h gid hosts host (group_at host.groups gid) here (tables h host here).1 (told-by (λ (r : row.Group). r.name) (λ (r : row.Group). r.gid) gid host.groups);
    })

pub sites_know : JoinedSitesKnowTheirHosts
sites_know hosts pins site lawful is =
    hosts-known hosts pins site
    (λ k d l. let host = get_or hosts k d in ((user_rows-table host.users (lawful k d l).users).numbers_differ, (group_rows-table host.groups (lawful k d l).groups).numbers_differ)) is
