-- What the hosts that were read give of a name.
use Rattle.std.proofs.Common.{◌≡◌, ℕ, suc, ◌<◌, ◌≤◌, ◌==◌, Bool, true, false, cond, List, [], ◌∷◌, ◌++◌, length, refl, sym, ap, subst, arith, inl, inr, Option, Some, None, Ok}
use Rattle.std.specs.Prelude.{Contains, MatchOption, is_some, slice_get}
use Rattle.std.specs.List.{All, AllByRecursion, cons_option, filter_map, find}
use Rattle.std.specs.Option.{option_and_then, option_map}
use Rattle.std.specs.Str.{bytes_eq}
use Rattle.std.proofs.lemmas.Bool.{cases_Bool}
use Rattle.std.proofs.lemmas.List.Elements.{All-contains, All-from_recursion, recursion_from_All}
use Rattle.std.proofs.lemmas.Option.{same_Some, slice_get_within, get_or_from_slice_get}
use Rattle.idtext.specs.First.{first_fault}
use Rattle.idtext.proofs.FirstLemmas.{none_of_both}
use Rattle.idtext.proofs.OkLemmas.{unless_ok}
use Rattle.accounts.specs.Rows.{Passwd, Group}
use Rattle.hosts_join.specs.declared.fault.SiteFault.{SiteFault}
use Rattle.hosts_join.specs.declared.host.Host.{Host}
use Rattle.hosts_join.specs.Accounts.{Account, place_of}
use Rattle.hosts_join.specs.Checks.{gid_fault, primary_checked}
use Rattle.hosts_join.specs.Kinds.{group_at}
use Rattle.hosts_join.specs.Laws.{IsOwnedAsTold, KnowsHost}
use Rattle.hosts_join.specs.Site.{Joined}
use Rattle.ownership.specs.Mappings.{IsMapping, number_under, number_at}
use Rattle.mergedfiles.specs.InPart.{WasReadInPart}
use Rattle.mergedfiles.specs.ReadBack.{HasNumber}
use Rattle.mergedfiles.specs.Rows.{GroupRow, first_of, groups_named}
use Rattle.mergedfiles.specs.Texts.{new_gid}
use Rattle.mergedfiles.proofs.Places.{place-within}
use Rattle.mergedfiles.proofs.ReadLines.{IsPlain}
use Rattle.mergedfiles.proofs.ReadRows.{HasPlainFields, HasPlainParts, users-plain, groups-plain}

pub found-holds : {R : Type 0} (P : R → Type 0) (test : R → Bool) (xs : List R) (x : R) → AllByRecursion P xs → find test xs ≡ Some x → P x
found-holds P test [] x all e = absurd (cc)
found-holds P test (y ∷ xs) x all e = elim (cases_Bool (test y)) [
  | inl t ↦ subst P (same_Some y x (rw t at e)) all.0
  | inr f ↦ found-holds P test xs x all.1 (rw f at e)
]

-- ---- the first host with a name

-- the row that a host has, on the first host that has one
-- h: the index of the host
pub record FoundOn {R V : Type 0} (table : Host → List R) (test : R → Bool) (make : Host → R → V) (hosts : List Host) (first : V) : Type 0 where
  pub h : ℕ
  pub host : Host
  pub row : R
  pub here : slice_get hosts h ≡ Some host
  pub found : find test (table host) ≡ Some row
  pub made : make host row ≡ first

module _ {R V : Type 0} (table : Host → List R) (test : R → Bool) (make : Host → R → V) where
  abbrev rows_on : List Host → List V
  rows_on hosts = filter_map (λ host. option_map (make host) (find test (table host))) hosts

  first-by : (host : Host) (hosts : List Host) (first : V) (o : Option R) → find test (table host) ≡ o → first_of (cons_option (option_map (make host) o) (rows_on hosts)) ≡ Some first → (first_of (rows_on hosts) ≡ Some first → FoundOn table test make hosts first) → FoundOn table test make (host ∷ hosts) first
  first-by host hosts first (Some row) is e later = record { h = 0; host = host; row = row; here = refl; found = is; made = same_Some (make host row) first e }
  first-by host hosts first None is e later =
      let found = later e in
      record { h = suc found.h; host = found.host; row = found.row; here = found.here; found = found.found; made = found.made }

  pub first-on : (hosts : List Host) (first : V) → first_of (rows_on hosts) ≡ Some first → FoundOn table test make hosts first
  first-on [] first e = absurd (cc)
  first-on (host ∷ hosts) first e = first-by host hosts first (find test (table host)) refl e (λ q. first-on hosts first q)

pub some-first : {V : Type 0} (vs : List V) → (vs ≡ [] → ⊥) → (v : V) × (first_of vs ≡ Some v)
some-first [] none = absurd (none refl)
some-first (v ∷ vs) none = (v, refl)

pub host-holds : (P : Host → Type 0) (hosts : List Host) (h : ℕ) (host : Host) → All P hosts → slice_get hosts h ≡ Some host → P host
host-holds P hosts h host all here = subst P (get_or_from_slice_get hosts h host host here) (all h host (slice_get_within hosts h host here))

-- a row that is found is one of those that are so
some-found : {R : Type 0} (P : R → Type 0) (test : R → Bool) (all rows : List R) (row : R) → AllByRecursion P all → All (Contains all) rows → find test rows ≡ Some row → P row
some-found P test all rows row holds among found = All-contains P all row (All-from_recursion P all holds) (found-holds (Contains all) test rows row (recursion_from_All (Contains all) rows among) found)

pub user-plain : (host : Host) (name : List ℕ) (row : Passwd) → WasReadInPart host → find (λ row. bytes_eq name row.name) host.users ≡ Some row → HasPlainFields row
user-plain host name row read found = some-found HasPlainFields (λ (row : Passwd). bytes_eq name row.name) read.all_users host.users row (users-plain read.passwd read.all_users read.users) read.each_user found

pub group-plain : (host : Host) (name : List ℕ) (row : Group) → WasReadInPart host → find (λ row. bytes_eq name row.name) host.groups ≡ Some row → HasPlainParts row
group-plain host name row read found = some-found HasPlainParts (λ (row : Group). bytes_eq name row.name) read.all_groups host.groups row (groups-plain read.group read.all_groups read.groups) read.each_group found

-- ---- the users of a group on all hosts

abbrev group_row_on : Host → Group → GroupRow
group_row_on host row = record { host = host; row = row }

pub all-members-plain : (name : List ℕ) (hosts : List Host) → AllByRecursion WasReadInPart hosts → AllByRecursion (λ (group : GroupRow). IsPlain group.row.members) (groups_named name hosts)
all-members-plain name [] read = tt
all-members-plain name (host ∷ hosts) read = by (find (λ row. bytes_eq name row.name) host.groups) refl (all-members-plain name hosts read.1)
  where
    by : (o : Option Group) → find (λ row. bytes_eq name row.name) host.groups ≡ o → AllByRecursion (λ (group : GroupRow). IsPlain group.row.members) (groups_named name hosts)
        → AllByRecursion (λ (group : GroupRow). IsPlain group.row.members) (cons_option (option_map (group_row_on host) o) (groups_named name hosts))
    by (Some row) is later = ((group-plain host name row read.0 is).members, later)
    by None is later = later

-- ---- the primary group of a user

passed : (b : Bool) (fault : SiteFault) → cond b None (Some fault) ≡ None → b ≡ true
passed true fault e = refl
passed false fault e = absurd (cc)

each-primary : (host : Host) (before rows : List Passwd) → first_fault (gid_fault host) before rows ≡ None → AllByRecursion (λ (row : Passwd). is_some (find (λ (group : Group). row.gid == group.gid) host.groups) ≡ true) rows
unfolding first_fault
each-primary host before [] e = tt
each-primary host before (row ∷ rows) e =
    let parts = none_of_both (gid_fault host before row) (first_fault (gid_fault host) (before ++ row ∷ []) rows) e in
    (passed (is_some (find (λ (group : Group). row.gid == group.gid) host.groups)) _ parts.0, each-primary host (before ++ row ∷ []) rows parts.1)

pub all-primary : (host : Host) → primary_checked host ≡ Ok tt → AllByRecursion (λ (row : Passwd). is_some (find (λ (group : Group). row.gid == group.gid) host.groups) ≡ true) host.users
unfolding primary_checked
all-primary host e = each-primary host [] host.users (unless_ok (first_fault (gid_fault host) [] host.users) tt tt e).0

-- the gid of a user in the merged passwd: the new number of its group, or where that was not joined its own
pub record HasPrimary (site : Joined) (gids : List ℕ) (host : Host) (row : Passwd) : Type 0 where
  pub small : new_gid site.groups gids host row.gid ≤ 4294967294
  pub is : MatchOption (group_at host.groups row.gid) (new_gid site.groups gids host row.gid ≡ row.gid) (λ group. HasNumber site.groups gids group (new_gid site.groups gids host row.gid))

module _ (site : Joined) (gids : List ℕ) (mapping : IsMapping gids) (long : length gids ≡ length site.groups.names) (h : ℕ) (host : Host) (known : KnowsHost site h host) (row : Passwd) (id : row.gid ≤ 4294967294) where
  abbrev number-of : Option (List ℕ) → ℕ
  number-of o = number_under gids (option_and_then (place_of site.groups.names) o) row.gid

  pub primary-of : HasPrimary site gids host row
  primary-of = by (group_at host.groups row.gid) refl
    where
      by : (o : Option (List ℕ)) → group_at host.groups row.gid ≡ o → HasPrimary site gids host row
      by None e = record {
        small = subst (λ o. number-of o ≤ 4294967294) (sym e) id;
        is = subst (λ o. MatchOption o (number-of o ≡ row.gid) (λ group. HasNumber site.groups gids group (number-of o))) (sym e) refl;
      }
      by (Some group) e =
          let owned = subst (λ o. IsOwnedAsTold site.groups.names h row.gid o) e (known.groups row.gid) in
          let number : number_at gids owned.0 ≡ number-of (Some group) = sym (ap (λ p. number_under gids p row.gid) owned.2) in
          let within : owned.0 < length site.groups.names = place-within (λ (a : Account). bytes_eq group a.name) site.groups.names owned.0 owned.2 in
          let small : number_at gids owned.0 ≤ 4294967294 = mapping.ids owned.0 0 (omega (arith, within, long)) in
          record {
            small = subst (λ o. number-of o ≤ 4294967294) (sym e) (subst (λ v. v ≤ 4294967294) number small);
            is = subst (λ o. MatchOption o (number-of o ≡ row.gid) (λ group. HasNumber site.groups gids group (number-of o))) (sym e) (owned.0, owned.2, number);
          }
