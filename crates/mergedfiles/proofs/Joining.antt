-- The rows of a name at the hosts that have it are its rows on all hosts.
use Rattle.std.proofs.Common.{◌≡◌, ℕ, zero, suc, ◌+◌, ◌<◌, Bool, List, [], ◌∷◌, ◌++◌, length, map, get_or, Option, Some, None, refl, sym, ◌∙◌, ap, inl, inr, arith, append_assoc, ◌⊎◌}
use Rattle.std.specs.List.{All, filter, filter_map, slice_get, find}
use Rattle.std.specs.Option.{option_and_then, option_map}
use Rattle.std.specs.Str.{bytes_eq}
use Rattle.std.proofs.lemmas.Bool.{cases_Bool}
use Rattle.std.proofs.lemmas.List.{map-append, length-append}
use Rattle.std.proofs.lemmas.List.Elements.{All-head, All-tail, filter-append, filter_map-append}
use Rattle.accounts.specs.Rows.{Passwd, Group}
use Rattle.accounts.specs.Laws.{AreDistinct}
use Rattle.logindefs.specs.declared.ranges.IdRange.{IdRange}
use Rattle.hosts_join.specs.declared.Spot.{Spot}
use Rattle.hosts_join.specs.declared.host.Host.{Host}
use Rattle.hosts_join.specs.Accounts.{Account, Row, standing_on, host_rows, rows_from, spots_of, spot_of, grouped, first_appearances, no_account}
use Rattle.hosts_join.specs.Accounts.{Accounts}
use Rattle.hosts_join.specs.Hosts.{IsLawfulHost}
use Rattle.hosts_join.specs.Kinds.{user_rows, group_rows}
use Rattle.hosts_join.specs.Rules.{account}
use Rattle.hosts_join.specs.Site.{Joined}
use Rattle.mergedfiles.specs.Rows.{UserRow, GroupRow, group_on, groups_named, user_on, users_named, first_of, joined_users}
use Rattle.mergedfiles.specs.Texts.{group_line, merged_group, user_line, merged_user}
use Rattle.mergedfiles.specs.Spots.{groups_at, users_at}
use Rattle.mergedfiles.specs.Differences.{user_differences, group_differences}
use Rattle.mergedfiles.specs.Together.{AreJoined}
use Rattle.hosts_join.proofs.Grouping.{bytes_same}

-- the spots of a name among the rows of one host, from the rows of its table
abbrev spot_in : ℕ → IdRange → IdRange → ℕ → Spot
spot_in place r s v = record { host = place; number = v; standing = standing_on r s v }

abbrev account_with : List ℕ → List Spot → Account
account_with n ss = record { name = n; spots = ss }

abbrev user_row_on : Host → Passwd → UserRow
user_row_on h r = record { host = h; row = r }

abbrev group_row_on : Host → Group → GroupRow
group_row_on h r = record { host = h; row = r }

abbrev group_names : List Host → List Account
group_names hosts = grouped (rows_from (λ h. h.ranges.gid) (λ h. h.ranges.sys_gid) (λ h. group_rows h.groups) 0 hosts)

abbrev user_names : List Host → List Account
user_names hosts = grouped (rows_from (λ h. h.ranges.uid) (λ h. h.ranges.sys_uid) (λ h. user_rows h.users) 0 hosts)

-- where a filter keeps nothing, nothing is found
none-found : {X : Type 0} (p : X → Bool) (xs : List X) → filter p xs ≡ [] → find p xs ≡ None
none-found p [] e = refl
none-found {X} p (x ∷ xs) e = elim (cases_Bool (p x)) [
  | inl t ↦ let e' = rw t at e in absurd (cons-nil x (filter p xs) e')
  | inr f ↦ let e' = rw f at e in rw f (none-found p xs e')
]
  where
    cons-nil : (y : X) (ys : List X) → y ∷ ys ≡ [] → ⊥
    cons-nil y ys q = (cc)

module _ {R : Type 0} (name : R → List ℕ) (number : R → ℕ) where
  spots-host : (place : ℕ) (r s : IdRange) (n : List ℕ) (rs : List R) → spots_of (host_rows place r s (map (λ x. (name x, number x)) rs)) n ≡ map (λ x. spot_in place r s (number x)) (filter (λ x. bytes_eq n (name x)) rs)
  unfolding spots_of
  spots-host place r s n [] = refl
  spots-host place r s n (x ∷ rs) = elim (cases_Bool (bytes_eq n (name x))) [
    | inl t ↦ rw (t, spots-host place r s n rs) refl
    | inr f ↦ rw (f, spots-host place r s n rs) refl
  ]

  none-named : (n : List ℕ) (rs : List R) → ((j : ℕ) → j < length (map name rs) → n ≡ get_or (map name rs) j [] → ⊥) → filter (λ x. bytes_eq n (name x)) rs ≡ []
  none-named n [] other = refl
  none-named n (x ∷ rs) other = elim (cases_Bool (bytes_eq n (name x))) [
    | inl t ↦ absurd (other 0 (omega arith) (bytes_same n (name x) t))
    | inr f ↦ rw f (none-named n rs (λ j h e. other (suc j) (omega arith) e))
  ]

  -- a table has at most one row of a name
  one-named : (n : List ℕ) (rs : List R) → AreDistinct (map name rs) → (filter (λ x. bytes_eq n (name x)) rs ≡ []) ⊎ ((x : R) × (filter (λ x. bytes_eq n (name x)) rs ≡ x ∷ []))
  one-named n [] apart = inl refl
  one-named n (x ∷ rs) apart = elim (cases_Bool (bytes_eq n (name x))) [
    | inl t ↦
        let e : n ≡ name x = bytes_same n (name x) t in
        let rest : filter (λ x. bytes_eq n (name x)) rs ≡ [] = none-named n rs (λ j h q. let z : 0 ≡ suc j = apart 0 (suc j) [] (omega arith) (omega arith) (sym e ∙ q) in omega arith) in
        inr (x, rw (t, rest) refl)
    | inr f ↦ rw f (one-named n rs (λ i j d hi hj q. let z : suc i ≡ suc j = apart (suc i) (suc j) d (omega arith) (omega arith) q in omega arith))
  ]

  module _ {V : Type 0} (table : Host → List R) (regular system : Host → IdRange) (on : List ℕ → Host → Option V)
      (apart : (h : Host) → IsLawfulHost h → AreDistinct (map name (table h)))
      (none : (n : List ℕ) (h : Host) → filter (λ x. bytes_eq n (name x)) (table h) ≡ [] → on n h ≡ None) where
    at-host : List Host → List ℕ → Spot → Option V
    at-host hosts n spot = option_and_then (on n) (slice_get hosts spot.host)

    one-host : (hosts : List Host) (n : List ℕ) (place : ℕ) (h : Host) → IsLawfulHost h → slice_get hosts place ≡ Some h
        → filter_map (λ (spot : Spot). option_and_then (on n) (slice_get hosts spot.host)) (spots_of (host_rows place (regular h) (system h) (map (λ x. (name x, number x)) (table h))) n) ≡ filter_map (on n) (h ∷ [])
    one-host hosts n place h lawful here = elim (one-named n (table h) (apart h lawful)) [
      | inl e ↦ rw (spots-host place (regular h) (system h) n (table h), e, none n h e) refl
      | inr p ↦ rw (spots-host place (regular h) (system h) n (table h), p.1, here) refl
    ]

    slice_get-front : (front : List Host) (h : Host) (hs : List Host) → slice_get (front ++ h ∷ hs) (length front) ≡ Some h
    slice_get-front [] h hs = refl
    slice_get-front (x ∷ front) h hs = slice_get-front front h hs

    spots_of-append : (n : List ℕ) (xs ys : List Row) → spots_of (xs ++ ys) n ≡ spots_of xs n ++ spots_of ys n
    unfolding spots_of
    spots_of-append n xs ys = ap (map spot_of) (filter-append (λ (r : Row). bytes_eq n r.name) xs ys) ∙ map-append spot_of (filter (λ (r : Row). bytes_eq n r.name) xs) (filter (λ (r : Row). bytes_eq n r.name) ys)

    all-hosts : (n : List ℕ) (front hosts : List Host) → All IsLawfulHost hosts
        → filter_map (λ (spot : Spot). option_and_then (on n) (slice_get (front ++ hosts) spot.host)) (spots_of (rows_from regular system (λ h. map (λ x. (name x, number x)) (table h)) (length front) hosts) n) ≡ filter_map (on n) hosts
    unfolding spots_of
    all-hosts n front [] lawful = refl
    all-hosts n front (h ∷ hs) lawful =
        let f = λ (spot : Spot). option_and_then (on n) (slice_get (front ++ h ∷ hs) spot.host) in
        let rows = host_rows (length front) (regular h) (system h) (map (λ x. (name x, number x)) (table h)) in
        let later = rows_from regular system (λ h. map (λ x. (name x, number x)) (table h)) (length front + 1) hs in
        let longer : length (front ++ h ∷ []) ≡ length front + 1 = length-append front (h ∷ []) in
        let rest = all-hosts n (front ++ h ∷ []) hs (All-tail IsLawfulHost h hs lawful) in
        let rest' = rw (longer, append_assoc) at rest in
        ap (filter_map f) (spots_of-append n rows later) ∙ filter_map-append f (spots_of rows n) (spots_of later n)
        ∙ ap (λ t. t ++ filter_map f (spots_of later n)) (one-host (front ++ h ∷ hs) n (length front) h (All-head IsLawfulHost h hs lawful) (slice_get-front front h hs))
        ∙ ap (λ t. filter_map (on n) (h ∷ []) ++ t) rest' ∙ sym (filter_map-append (on n) (h ∷ []) hs)

among : (rows : List Row) (ns : List (List ℕ)) (i : ℕ) → i < length (map (λ n. account_with n (spots_of rows n)) ns) → (get_or (map (λ n. account_with n (spots_of rows n)) ns) i no_account).spots ≡ spots_of rows (get_or (map (λ n. account_with n (spots_of rows n)) ns) i no_account).name
among rows [] i h = absurd (omega arith)
among rows (n ∷ ns) zero h = refl
among rows (n ∷ ns) (suc i) h = among rows ns i (omega arith)

spots-grouped : (rows : List Row) (i : ℕ) → i < length (grouped rows) → (get_or (grouped rows) i no_account).spots ≡ spots_of rows (get_or (grouped rows) i no_account).name
unfolding grouped
spots-grouped rows i h = among rows (first_appearances (map (λ (r : Row). r.name) rows)) i h

no-group : (n : List ℕ) (h : Host) → filter (λ r. bytes_eq n r.name) h.groups ≡ [] → group_on n h ≡ None
no-group n h e = ap (option_map (λ (r : Group). group_row_on h r)) (none-found (λ (r : Group). bytes_eq n r.name) h.groups e)

no-user : (n : List ℕ) (h : Host) → filter (λ r. bytes_eq n r.name) h.users ≡ [] → user_on n h ≡ None
no-user n h e = ap (option_map (λ (r : Passwd). user_row_on h r)) (none-found (λ (r : Passwd). bytes_eq n r.name) h.users e)

-- the rows at the spots of a site's name are all its rows
pub groups-together : (hosts : List Host) (site : Joined) → AreJoined hosts site → All IsLawfulHost hosts → (i : ℕ) → i < length site.groups.names → groups_at hosts (account site.groups i).name (account site.groups i).spots ≡ groups_named (account site.groups i).name hosts
groups-together hosts site j lawful i h =
    let a : Accounts = site.groups in
    let e : a.names ≡ group_names hosts = ap (λ (b : Accounts). b.names) j.groups in
    let rows = rows_from (λ (h : Host). h.ranges.gid) (λ (h : Host). h.ranges.sys_gid) (λ (h : Host). group_rows h.groups) 0 hosts in
    let h' : i < length (grouped rows) = rw (← e) h in
    let spots : (account a i).spots ≡ spots_of rows (account a i).name = rw e (spots-grouped rows i h') in
    ap (groups_at hosts (account a i).name) spots
    ∙ all-hosts (λ (r : Group). r.name) (λ (r : Group). r.gid) (λ (h : Host). h.groups) (λ (h : Host). h.ranges.gid) (λ (h : Host). h.ranges.sys_gid) group_on (λ h l. l.groups.names_differ) no-group (account a i).name [] hosts lawful

pub users-together : (hosts : List Host) (site : Joined) → AreJoined hosts site → All IsLawfulHost hosts → (i : ℕ) → i < length site.users.names → users_at hosts (account site.users i).name (account site.users i).spots ≡ users_named (account site.users i).name hosts
users-together hosts site j lawful i h =
    let a : Accounts = site.users in
    let e : a.names ≡ user_names hosts = ap (λ (b : Accounts). b.names) j.users in
    let rows = rows_from (λ (h : Host). h.ranges.uid) (λ (h : Host). h.ranges.sys_uid) (λ (h : Host). user_rows h.users) 0 hosts in
    let h' : i < length (grouped rows) = rw (← e) h in
    let spots : (account a i).spots ≡ spots_of rows (account a i).name = rw e (spots-grouped rows i h') in
    ap (users_at hosts (account a i).name) spots
    ∙ all-hosts (λ (r : Passwd). r.name) (λ (r : Passwd). r.uid) (λ (h : Host). h.users) (λ (h : Host). h.ranges.uid) (λ (h : Host). h.ranges.sys_uid) user_on (λ h l. l.users.names_differ) no-user (account a i).name [] hosts lawful

-- the lines and the differences that are made from a name's spots
pub group-line-is : (hosts : List Host) (site : Joined) → AreJoined hosts site → All IsLawfulHost hosts → (i v : ℕ) → i < length site.groups.names → (n : List ℕ) (ss : List Spot) → n ≡ (account site.groups i).name → ss ≡ (account site.groups i).spots
    → group_line n v (joined_users (groups_at hosts n ss)) (first_of (groups_at hosts n ss)) ≡ merged_group hosts (account site.groups i).name v
group-line-is hosts site j lawful i v h n ss en es = let g = groups-together hosts site j lawful i h in rw (en, es, g) refl

pub user-line-is : (hosts : List Host) (site : Joined) (gids : List ℕ) → AreJoined hosts site → All IsLawfulHost hosts → (i v : ℕ) → i < length site.users.names → (groups : Accounts) → groups ≡ site.groups → (n : List ℕ) (ss : List Spot) → n ≡ (account site.users i).name → ss ≡ (account site.users i).spots
    → user_line groups gids n v (first_of (users_at hosts n ss)) ≡ merged_user site.groups gids hosts (account site.users i).name v
user-line-is hosts site gids j lawful i v h groups eg n ss en es = let g = users-together hosts site j lawful i h in rw (eg, en, es, g) refl

pub user-differences-are : (hosts : List Host) (site : Joined) → AreJoined hosts site → All IsLawfulHost hosts → (i : ℕ) → i < length site.users.names → (n : List ℕ) (ss : List Spot) → n ≡ (account site.users i).name → ss ≡ (account site.users i).spots → user_differences n (users_at hosts n ss) ≡ user_differences n (users_named n hosts)
user-differences-are hosts site j lawful i h n ss en es = let g = users-together hosts site j lawful i h in rw (en, es, g) refl

pub group-differences-are : (hosts : List Host) (site : Joined) → AreJoined hosts site → All IsLawfulHost hosts → (i : ℕ) → i < length site.groups.names → (n : List ℕ) (ss : List Spot) → n ≡ (account site.groups i).name → ss ≡ (account site.groups i).spots → group_differences n (groups_at hosts n ss) ≡ group_differences n (groups_named n hosts)
group-differences-are hosts site j lawful i h n ss en es = let g = groups-together hosts site j lawful i h in rw (en, es, g) refl
