-- Some host has a row of each name.
use Rattle.std.proofs.Common.{◌≡◌, ℕ, zero, suc, ◌+◌, ◌<◌, Bool, true, false, List, [], ◌∷◌, ◌++◌, length, map, get_or, Option, Some, None, refl, sym, ◌∙◌, ap, inl, inr, arith}
use Rattle.std.specs.List.{filter_map, find, list_any}
use Rattle.std.specs.Option.{option_map}
use Rattle.std.specs.Str.{bytes_eq}
use Rattle.std.proofs.lemmas.Bool.{cases_Bool, true≢false}
use Rattle.std.proofs.lemmas.List.{map-append, length-map, get_or-map}
use Rattle.accounts.specs.Rows.{Passwd, Group}
use Rattle.logindefs.specs.declared.ranges.IdRange.{IdRange}
use Rattle.hosts_join.specs.declared.host.Host.{Host}
use Rattle.hosts_join.specs.Accounts.{Account, Accounts, Row, host_rows, rows_from, spots_of, grouped, first_appearances, no_account}
use Rattle.hosts_join.specs.Kinds.{user_rows, group_rows}
use Rattle.hosts_join.specs.Rules.{account}
use Rattle.hosts_join.specs.Site.{Joined}
use Rattle.hosts_join.proofs.Grouping.{any-first_appearances, bytes_refl}
use Rattle.mergedfiles.specs.Rows.{user_on, users_named, group_on, groups_named}
use Rattle.mergedfiles.specs.Together.{AreJoined}
use Rattle.mergedfiles.proofs.Steps.{nothing-first}

abbrev row_names : List Row → List (List ℕ)
row_names rows = map (λ (r : Row). r.name) rows

any-append : {X : Type 0} (p : X → Bool) (xs ys : List X) → list_any p xs ≡ false → list_any p ys ≡ false → list_any p (xs ++ ys) ≡ false
any-append p [] ys a b = b
any-append p (x ∷ xs) ys a b = elim (cases_Bool (p x)) [
  | inl t ↦ absurd (true≢false (rw t at a))
  | inr f ↦ rw f (any-append p xs ys (rw f at a) b)
]

any-at : (ns : List (List ℕ)) (i : ℕ) (d : List ℕ) → i < length ns → list_any (bytes_eq (get_or ns i d)) ns ≡ true
any-at [] i d h = absurd (omega arith)
any-at (n ∷ ns) zero d h = rw (bytes_refl n) refl
any-at (n ∷ ns) (suc i) d h = elim (cases_Bool (bytes_eq (get_or ns i d) n)) [
  | inl t ↦ rw t refl
  | inr f ↦ rw f (any-at ns i d (omega arith))
]

-- an account's name is that of a row
named : (rows : List Row) (i : ℕ) → i < length (grouped rows) → list_any (bytes_eq (get_or (grouped rows) i no_account).name) (row_names rows) ≡ true
unfolding grouped
named rows i h =
    let ns = first_appearances (row_names rows) in
    let with-spots : List ℕ → Account = λ n. record { name = n; spots = spots_of rows n } in
    let h' : i < length ns = omega (arith, length-map ns with-spots) in
    rw (get_or-map with-spots ns i [] no_account h', ← any-first_appearances (get_or ns i []) (row_names rows)) (any-at ns i [] h')

module _ {R V : Type 0} (name : R → List ℕ) (number : R → ℕ) (table : Host → List R) (regular system : Host → IdRange) (on : List ℕ → Host → Option V)
    (missing : (n : List ℕ) (h : Host) → on n h ≡ None → find (λ x. bytes_eq n (name x)) (table h) ≡ None) where
  none-here : (n : List ℕ) (place : ℕ) (r s : IdRange) (rs : List R) → find (λ x. bytes_eq n (name x)) rs ≡ None → list_any (bytes_eq n) (row_names (host_rows place r s (map (λ x. (name x, number x)) rs))) ≡ false
  none-here n place r s [] e = refl
  none-here n place r s (x ∷ rs) e = elim (cases_Bool (bytes_eq n (name x))) [
    | inl t ↦ absurd (some (rw t at e))
    | inr f ↦ rw f (none-here n place r s rs (rw f at e))
  ]
    where
      some : Some x ≡ None → ⊥
      some q = (cc)

  none-named : (n : List ℕ) (place : ℕ) (hosts : List Host) → filter_map (on n) hosts ≡ [] → list_any (bytes_eq n) (row_names (rows_from regular system (λ h. map (λ x. (name x, number x)) (table h)) place hosts)) ≡ false
  none-named n place [] e = refl
  none-named n place (h ∷ hs) e =
      let parts = nothing-first (on n h) (filter_map (on n) hs) e in
      let here = host_rows place (regular h) (system h) (map (λ x. (name x, number x)) (table h)) in
      let later = rows_from regular system (λ h. map (λ x. (name x, number x)) (table h)) (place + 1) hs in
      rw (map-append (λ (r : Row). r.name) here later)
      (any-append (bytes_eq n) (row_names here) (row_names later) (none-here n place (regular h) (system h) (table h) (missing n h parts.0)) (none-named n (place + 1) hs parts.1))

none-mapped : {X Y : Type 0} (f : X → Y) (o : Option X) → option_map f o ≡ None → o ≡ None
none-mapped f None e = refl
none-mapped f (Some x) e = absurd (cc)

pub users-had : (hosts : List Host) (site : Joined) (i : ℕ) → AreJoined hosts site → i < length site.users.names → users_named (account site.users i).name hosts ≡ [] → ⊥
users-had hosts site i j h none =
    let e = ap (λ (a : Accounts). a.names) j.users in
    let rows = rows_from (λ (h : Host). h.ranges.uid) (λ (h : Host). h.ranges.sys_uid) (λ (h : Host). user_rows h.users) 0 hosts in
    let h' : i < length (grouped rows) = rw (← e) h in
    let had : list_any (bytes_eq (account site.users i).name) (row_names rows) ≡ true = rw e (named rows i h') in
    let not-had = none-named (λ (r : Passwd). r.name) (λ (r : Passwd). r.uid) (λ (h : Host). h.users) (λ (h : Host). h.ranges.uid) (λ (h : Host). h.ranges.sys_uid) user_on
    (λ n h q. none-mapped _ (find (λ (r : Passwd). bytes_eq n r.name) h.users) q) (account site.users i).name 0 hosts none in
    true≢false (sym had ∙ not-had)

pub groups-had : (hosts : List Host) (site : Joined) (i : ℕ) → AreJoined hosts site → i < length site.groups.names → groups_named (account site.groups i).name hosts ≡ [] → ⊥
groups-had hosts site i j h none =
    let e = ap (λ (a : Accounts). a.names) j.groups in
    let rows = rows_from (λ (h : Host). h.ranges.gid) (λ (h : Host). h.ranges.sys_gid) (λ (h : Host). group_rows h.groups) 0 hosts in
    let h' : i < length (grouped rows) = rw (← e) h in
    let had : list_any (bytes_eq (account site.groups i).name) (row_names rows) ≡ true = rw e (named rows i h') in
    let not-had = none-named (λ (r : Group). r.name) (λ (r : Group). r.gid) (λ (h : Host). h.groups) (λ (h : Host). h.ranges.gid) (λ (h : Host). h.ranges.sys_gid) group_on
    (λ n h q. none-mapped _ (find (λ (r : Group). bytes_eq n r.name) h.groups) q) (account site.groups i).name 0 hosts none in
    true≢false (sym had ∙ not-had)
