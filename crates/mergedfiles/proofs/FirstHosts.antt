-- The first host that has a name decides.
use Rattle.std.proofs.Common.{◌≡◌, ◌≢◌, ℕ, true, false, List, [], ◌∷◌, find, option_map, Option, Some, None, bytes_eq, refl, sym, ◌∙◌, ap, subst, inl, inr}
use Rattle.std.specs.List.{All, AllByRecursion, filter_map}
use Rattle.std.proofs.lemmas.Bool.{cases_Bool, true≢false}
use Rattle.std.proofs.lemmas.List.Elements.{All-from_recursion}
use Rattle.std.proofs.lemmas.Option.{same_Some}
use Rattle.accounts.specs.Rows.{Passwd, Group}
use Rattle.hosts_join.specs.declared.host.Host.{Host}
use Rattle.hosts_join.proofs.Grouping.{bytes_refl, bytes_same}
use Rattle.mergedfiles.specs.FirstHosts.{IsOfFirstHost, FirstHostDecidesGroups, FirstHostDecidesUsers}
use Rattle.mergedfiles.specs.Rows.{UserRow, GroupRow, first_of}
use Rattle.mergedfiles.proofs.Ordering.{In, at-in}
use Rattle.mergedfiles.proofs.ToldDifferences.{start, user_own, group_own}

-- ---- the row of a name in a table

module _ {R : Type 0} (name_of : R → List ℕ) (name : List ℕ) where
  abbrev pub row_in : List R → Option R
  row_in rows = find (λ row. bytes_eq name (name_of row)) rows

  found-in : (rows : List R) (row : R) → row_in rows ≡ Some row → In row rows × (name_of row ≡ name)
  found-in [] row e = absurd (cc)
  found-in (r ∷ rows) row e = elim (cases_Bool (bytes_eq name (name_of r))) [
    | inl t ↦
        let same : r ≡ row = same_Some r row (rw t at e) in
        (inl (sym same), sym (bytes_same name (name_of row) (subst (λ x. bytes_eq name (name_of x) ≡ true) same t)))
    | inr f ↦ let later = found-in rows row (rw f at e) in (inr later.0, later.1)
  ]

  none-in : (rows : List R) → row_in rows ≡ None → AllByRecursion (λ row. name_of row ≢ name) rows
  none-in [] e = tt
  none-in (r ∷ rows) e = elim (cases_Bool (bytes_eq name (name_of r))) [
    | inl t ↦ absurd (some (rw t at e))
    | inr f ↦ (λ same. true≢false (sym (bytes_refl name) ∙ subst (λ n. bytes_eq name n ≡ false) same f), none-in rows (rw f at e))
  ]
    where
      some : Some r ≡ None → ⊥
      some q = (cc)

  -- ---- hosts

  module _ {V : Type 0} (table : Host → List R) (make : Host → R → V) (host_of : V → Host) (row_of : V → R)
      (same_row : (host : Host) (row : R) → row_of (make host row) ≡ row) where
    abbrev pub on : Host → Option V
    on host = option_map (make host) (row_in (table host))

    none-on : (host : Host) → on host ≡ None → All (λ row. name_of row ≢ name) (table host)
    none-on host e = All-from_recursion (λ row. name_of row ≢ name) (table host) (none-in (table host) (by (row_in (table host)) e))
      where
        by : (o : Option R) → option_map (make host) o ≡ None → o ≡ None
        by None q = refl
        by (Some row) q = absurd (cc)

    pub some-on : (host : Host) (first : V) → on host ≡ Some first → In (row_of first) (table host) × (name_of (row_of first) ≡ name)
    some-on host first e = by (row_in (table host)) refl e
      where
        by : (o : Option R) → row_in (table host) ≡ o → option_map (make host) o ≡ Some first → In (row_of first) (table host) × (name_of (row_of first) ≡ name)
        by None is q = absurd (cc)
        by (Some row) is q =
            let same : row ≡ row_of first = sym (same_row host row) ∙ ap row_of (same_Some (make host row) first q) in
            found-in (table host) (row_of first) (is ∙ ap (λ r. Some r) same)

    nones-on : (before : List Host) → AllByRecursion (λ host. on host ≡ None) before → AllByRecursion (λ host. All (λ row. name_of row ≢ name) (table host)) before
    nones-on [] all = tt
    nones-on (host ∷ before) all = (none-on host all.0, nones-on before all.1)

    first-decides : (own : (host : Host) (v : V) → on host ≡ Some v → host_of v ≡ host) (hosts : List Host) (first : V) → first_of (filter_map on hosts) ≡ Some first
        → IsOfFirstHost table name_of name hosts (host_of first) (row_of first)
    first-decides own hosts first e = by (filter_map on hosts) refl e
      where
        by : (rows : List V) → filter_map on hosts ≡ rows → first_of rows ≡ Some first → IsOfFirstHost table name_of name hosts (host_of first) (row_of first)
        by [] is q = absurd (cc)
        by (one ∷ others) is q =
            let same : one ≡ first = same_Some one first q in
            let s = start host_of on own hosts first others (subst (λ v. filter_map on hosts ≡ v ∷ others) same is) in
            let there = some-on (host_of first) first s.row in
            record {
              before = s.before;
              behind = s.back;
              order = s.split;
              none_before = All-from_recursion (λ host. All (λ row. name_of row ≢ name) (table host)) s.before (nones-on s.before s.none);
              has = at-in (row_of first) (table (host_of first)) there.0;
              named = there.1;
            }

abbrev pub user_made : Host → Passwd → UserRow
user_made host row = record { host = host; row = row }

abbrev pub group_made : Host → Group → GroupRow
group_made host row = record { host = host; row = row }

pub users_decided : FirstHostDecidesUsers
users_decided name hosts first e =
    first-decides (λ (row : Passwd). row.name) name (λ (host : Host). host.users) user_made (λ (u : UserRow). u.host) (λ (u : UserRow). u.row) (λ host row. refl) (user_own name) hosts first e

pub groups_decided : FirstHostDecidesGroups
groups_decided name hosts first e =
    first-decides (λ (row : Group). row.name) name (λ (host : Host). host.groups) group_made (λ (g : GroupRow). g.host) (λ (g : GroupRow). g.row) (λ host row. refl) (group_own name) hosts first e
