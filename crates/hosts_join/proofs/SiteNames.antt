-- Which hosts and which names a site has, and in which order.
use Rattle.std.proofs.Common.{◌≡◌, ℕ, suc, ◌+◌, ◌<◌, ◌||◌, false, List, [], ◌∷◌, ◌++◌, length, map, get_or, refl, sym, ◌∙◌, ap, arith, inl, inr}
use Rattle.std.specs.List.{list_any}
use Rattle.std.specs.Str.{bytes_eq}
use Rattle.std.proofs.Math.Bool.{or-false}
use Rattle.std.proofs.lemmas.Bool.{cases_Bool, or_from, or_parts, false_from_ne_true}
use Rattle.std.proofs.lemmas.List.{map-append, append-nil, append_assoc}
use Rattle.std.proofs.lemmas.List.Folds.{list_any-append}
use Rattle.std.proofs.lemmas.Simd.{map-map}
use Rattle.accounts.specs.Laws.{AreDistinct}
use Rattle.accounts.specs.Rows.{Passwd}
use Rattle.accounts.specs.Rows as row
use Rattle.logindefs.specs.declared.ranges.IdRange.{IdRange}
use Rattle.logindefs.specs.declared.ranges.HostRanges.{HostRanges}
use Rattle.hosts_join.specs.Accounts.{Account, HostEntry, Pair, Row, first_appearances, grouped, host_rows, rows_from, spots_of, standing_on}
use Rattle.hosts_join.specs.Hosts.{IsLawfulHost}
use Rattle.hosts_join.specs.Kinds.{user_rows, group_rows, user_rows-table, group_rows-table}
use Rattle.hosts_join.specs.Site.{accounts_of, entry_on}
use Rattle.hosts_join.specs.SiteNames.{KindsNameTheirHosts, NamesStandAsTheyAppear, StandAsTheyAppear, group_names, names_of, user_names, without}
use Rattle.hosts_join.specs.declared.host.Host.{Host}
use Rattle.hosts_join.specs.declared.reserving.Reserved.{Reserved}
use Rattle.hosts_join.proofs.Grouping.{AreNames, bytes_same, bytes_sym, first_appearances-push, grouped-nil}

pub kinds_name_their_hosts : KindsNameTheirHosts
kinds_name_their_hosts hosts pins = (
  map-map (λ (e : HostEntry). e.name) (entry_on (λ (r : HostRanges). r.uid) (λ (r : HostRanges). r.sys_uid)) hosts,
  map-map (λ (e : HostEntry). e.name) (entry_on (λ (r : HostRanges). r.gid) (λ (r : HostRanges). r.sys_gid)) hosts,
)

-- ---- each where it appears first

-- one old name more takes nothing away where it does not stand
without-other : (old : List (List ℕ)) (n : List ℕ) (ns : List (List ℕ)) → list_any (bytes_eq n) ns ≡ false → without (old ++ n ∷ []) ns ≡ without old ns
without-other old n [] away = refl
without-other old n (m ∷ ns) away =
    let parts = or_parts (bytes_eq n m) (list_any (bytes_eq n) ns) away in
    let other : bytes_eq m n ≡ false = bytes_sym m n ∙ parts.0 in
    let last : (list_any (bytes_eq m) old || list_any (bytes_eq m) (n ∷ [])) ≡ list_any (bytes_eq m) old = rw other (or-false (list_any (bytes_eq m) old)) in
    let same : list_any (bytes_eq m) (old ++ n ∷ []) ≡ list_any (bytes_eq m) old = list_any-append (bytes_eq m) old (n ∷ []) ∙ last in
    elim (cases_Bool (list_any (bytes_eq m) old)) [
      | inl there ↦ rw (same, there) (without-other old n ns parts.1)
      | inr new ↦ rw (same, new) (ap (λ t. m ∷ t) (without-other old n ns parts.1))
    ]

-- names that differ, behind others: those of them come that did not stand there
firsts-append : (xs ys : List (List ℕ)) → AreNames ys → first_appearances (xs ++ ys) ≡ first_appearances xs ++ without (first_appearances xs) ys
unfolding AreNames
firsts-append xs [] differ = ap first_appearances (append-nil xs) ∙ sym (append-nil (first_appearances xs))
firsts-append xs (y ∷ ys) differ =
    let firsts = first_appearances xs in
    let split : first_appearances (xs ++ y ∷ ys) ≡ first_appearances (xs ++ y ∷ []) ++ without (first_appearances (xs ++ y ∷ [])) ys =
    ap first_appearances (sym (append_assoc xs (y ∷ []) ys)) ∙ firsts-append (xs ++ y ∷ []) ys differ.1 in
    elim (cases_Bool (list_any (bytes_eq y) firsts)) [
      | inl there ↦
          let stays : first_appearances (xs ++ y ∷ []) ≡ firsts = first_appearances-push xs y ∙ (rw there refl) in
          let both : first_appearances (xs ++ y ∷ ys) ≡ firsts ++ without firsts ys = split ∙ ap (λ fs. fs ++ without fs ys) stays in
          both ∙ (rw there refl)
      | inr new ↦
          let grows : first_appearances (xs ++ y ∷ []) ≡ firsts ++ y ∷ [] = first_appearances-push xs y ∙ (rw new refl) in
          let both : first_appearances (xs ++ y ∷ ys) ≡ (firsts ++ y ∷ []) ++ without (firsts ++ y ∷ []) ys = split ∙ ap (λ fs. fs ++ without fs ys) grows in
          let rest : (firsts ++ y ∷ []) ++ without (firsts ++ y ∷ []) ys ≡ firsts ++ y ∷ without firsts ys =
          ap (λ t. (firsts ++ y ∷ []) ++ t) (without-other firsts y ys differ.0) ∙ append_assoc firsts (y ∷ []) (without firsts ys) in
          both ∙ rest ∙ (rw new refl)
    ]

none-there : (n : List ℕ) (ns : List (List ℕ)) → ((j : ℕ) → j < length ns → n ≡ get_or ns j [] → ⊥) → list_any (bytes_eq n) ns ≡ false
none-there n [] apart = refl
none-there n (m ∷ ns) apart = or_from _ _ (false_from_ne_true (bytes_eq n m) (λ t. apart 0 (omega arith) (bytes_same n m t))) (none-there n ns (λ j l e. apart (suc j) (omega arith) e))

names-differ : (ns : List (List ℕ)) → AreDistinct ns → AreNames ns
unfolding AreNames
names-differ [] a = tt
names-differ (n ∷ ns) a = (
  none-there n ns (λ j l e. let z : 0 ≡ suc j = a 0 (suc j) [] (omega arith) (omega arith) e in omega arith),
  names-differ ns (λ i j d hi hj e. let s : suc i ≡ suc j = a (suc i) (suc j) d (omega arith) (omega arith) e in omega arith),
)

-- ---- the names of accounts

abbrev account_of : List Row → List ℕ → Account
account_of rows n = record { name = n; spots = spots_of rows n }

named : (rows : List Row) (ns : List (List ℕ)) → map (λ (a : Account). a.name) (map (account_of rows) ns) ≡ ns
named rows [] = refl
named rows (n ∷ ns) = ap (λ t. n ∷ t) (named rows ns)

names-grouped : (rows : List Row) → map (λ (a : Account). a.name) (grouped rows) ≡ first_appearances (map (λ (r : Row). r.name) rows)
unfolding grouped
names-grouped rows = named rows (first_appearances (map (λ (r : Row). r.name) rows))

module _ (regular system : HostRanges → IdRange) (listed : Host → List (List ℕ × ℕ)) (distinct : (h : Host) → IsLawfulHost h → AreDistinct (map (λ p. p.0) (listed h))) (pins : List Pair) (reserved : List Reserved) where
  abbrev rows_on : ℕ → Host → List Row
  rows_on place h = host_rows place (regular h.ranges) (system h.ranges) (listed h)

  abbrev site_rows : ℕ → List Host → List Row
  site_rows place hosts = rows_from (λ (h : Host). regular h.ranges) (λ (h : Host). system h.ranges) listed place hosts

  abbrev row_names : List Row → List (List ℕ)
  row_names rs = map (λ (r : Row). r.name) rs

  abbrev its_names : Host → List (List ℕ)
  its_names h = map (λ (p : List ℕ × ℕ). p.0) (listed h)

  -- a host more has its rows behind all others
  one-host-more : (place : ℕ) (before : List Host) (host : Host) → row_names (site_rows place (before ++ host ∷ [])) ≡ row_names (site_rows place before) ++ its_names host
  one-host-more place [] host =
      ap row_names (append-nil (rows_on place host))
      ∙ map-map (λ (r : Row). r.name) (λ (p : List ℕ × ℕ). record { host = place; name = p.0; number = p.1; standing = standing_on (regular host.ranges) (system host.ranges) p.1 }) (listed host)
  one-host-more place (h ∷ before) host =
      let here = rows_on place h in
      map-append (λ (r : Row). r.name) here (site_rows (place + 1) (before ++ host ∷ []))
      ∙ ap (λ ns. row_names here ++ ns) (one-host-more (place + 1) before host)
      ∙ sym (append_assoc (row_names here) (row_names (site_rows (place + 1) before)) (its_names host))
      ∙ ap (λ ns. ns ++ its_names host) (sym (map-append (λ (r : Row). r.name) here (site_rows (place + 1) before)))

  abbrev names : List Host → List (List ℕ)
  names hosts = names_of (accounts_of regular system listed hosts pins reserved)

  no-names : names [] ≡ []
  no-names = ap (map (λ (a : Account). a.name)) grouped-nil

  more-names : (before : List Host) (host : Host) → IsLawfulHost host → names (before ++ host ∷ []) ≡ names before ++ without (names before) (its_names host)
  more-names before host lawful =
      names-grouped (site_rows 0 (before ++ host ∷ []))
      ∙ ap first_appearances (one-host-more 0 before host)
      ∙ firsts-append (row_names (site_rows 0 before)) (its_names host) (names-differ (its_names host) (distinct host lawful))
      ∙ ap (λ ns. ns ++ without ns (its_names host)) (sym (names-grouped (site_rows 0 before)))

  -- given: the names of its rows, in other words
  stand : (given : Host → List (List ℕ)) → ((h : Host) → its_names h ≡ given h) → StandAsTheyAppear given names
  stand given same = record {
    none = no-names;
    more = λ before host lawful. more-names before host lawful ∙ ap (λ ns. names before ++ without (names before) ns) (same host);
  }

pub names_stand_as_they_appear : NamesStandAsTheyAppear
names_stand_as_they_appear pins = (
  stand (λ (r : HostRanges). r.uid) (λ (r : HostRanges). r.sys_uid) (λ (h : Host). user_rows h.users) (λ h l. (user_rows-table h.users l.users).names_differ) pins.users pins.reserved_users
      user_names (λ h. map-map (λ (p : List ℕ × ℕ). p.0) (λ (r : Passwd). (r.name, r.uid)) h.users),
  stand (λ (r : HostRanges). r.gid) (λ (r : HostRanges). r.sys_gid) (λ (h : Host). group_rows h.groups) (λ h l. (group_rows-table h.groups l.groups).names_differ) pins.groups pins.reserved_groups
      group_names (λ h. map-map (λ (p : List ℕ × ℕ). p.0) (λ (r : row.Group). (r.name, r.gid)) h.groups),
)
