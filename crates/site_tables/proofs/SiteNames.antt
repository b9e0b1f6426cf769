-- The names of accounts are those of the rows on hosts.
use Rattle.std.proofs.Common.{◌≡◌, ◌+◌, ℕ, ◌||◌, List, [], ◌∷◌, map, refl, sym, ap, ◌∙◌}
use Rattle.std.specs.List.{find, list_any}
use Rattle.std.specs.Option.{is_some}
use Rattle.std.specs.Str.{bytes_eq}
use Rattle.std.proofs.lemmas.List.{map-append}
use Rattle.std.proofs.lemmas.List.Folds.{list_any-append}
use Rattle.accounts.proofs.ListLemmas.{list_any-map}
use Rattle.hosts_join.specs.Accounts.{Account, Row, first_appearances, grouped, host_rows, rows_from, spots_of}
use Rattle.hosts_join.specs.Rules.{is_name}
use Rattle.hosts_join.specs.declared.host.Host.{Host}
use Rattle.hosts_join.proofs.Grouping.{any-first_appearances}
use Rattle.logindefs.specs.declared.ranges.IdRange.{IdRange}
use Rattle.site_tables.proofs.AnyDecides.{some_found}

module _ {R : Type 0} (name : R → List ℕ) (number : R → ℕ) (table : Host → List R) (regular system : Host → IdRange) where
  abbrev listed : Host → List (List ℕ × ℕ)
  listed h = map (λ x. (name x, number x)) (table h)

  abbrev names : List Row → List (List ℕ)
  names rows = map (λ (r : Row). r.name) rows

  named_here : (place : ℕ) (low high : IdRange) (rows : List R) (n : List ℕ) → list_any (bytes_eq n) (names (host_rows place low high (map (λ x. (name x, number x)) rows))) ≡ list_any (λ x. bytes_eq n (name x)) rows
  named_here place low high [] n = refl
  named_here place low high (x ∷ rows) n = ap (λ b. bytes_eq n (name x) || b) (named_here place low high rows n)

  named_on : (place : ℕ) (hosts : List Host) (n : List ℕ) → list_any (bytes_eq n) (names (rows_from regular system listed place hosts)) ≡ list_any (λ h. is_some (find (λ x. bytes_eq n (name x)) (table h))) hosts
  named_on place [] n = refl
  named_on place (h ∷ hs) n =
      let here = host_rows place (regular h) (system h) (listed h) in
      let later = rows_from regular system listed (place + 1) hs in
      let at_h : list_any (bytes_eq n) (names here) ≡ is_some (find (λ x. bytes_eq n (name x)) (table h)) = named_here place (regular h) (system h) (table h) n ∙ sym (some_found (λ x. bytes_eq n (name x)) (table h)) in
      ap (list_any (bytes_eq n)) (map-append (λ (r : Row). r.name) here later) ∙ list_any-append (bytes_eq n) (names here) (names later)
      ∙ ap (λ b. b || list_any (bytes_eq n) (names later)) at_h ∙ ap (λ b. is_some (find (λ x. bytes_eq n (name x)) (table h)) || b) (named_on (place + 1) hs n)

  pub named_somewhere : (hosts : List Host) (n : List ℕ) → is_name (grouped (rows_from regular system listed 0 hosts)) n ≡ list_any (λ h. is_some (find (λ x. bytes_eq n (name x)) (table h))) hosts
  unfolding grouped
  named_somewhere hosts n =
      let rows = rows_from regular system listed 0 hosts in
      let with_spots : List ℕ → Account = λ m. record { name = m; spots = spots_of rows m } in
      list_any-map (λ (a : Account). bytes_eq n a.name) with_spots (first_appearances (names rows)) ∙ any-first_appearances n (names rows) ∙ named_on 0 hosts n
