-- The rows that own the files of an owner.
use Rattle.std.proofs.Common.{◌≡◌, ◌<◌, ℕ, Option, Some, None, [], true, nat_eq, position, refl, ap, ◌∙◌, arith}
use Rattle.std.specs.Prelude.{IfSome}
use Rattle.std.proofs.lemmas.List.{length-map}
use Rattle.std.proofs.lemmas.List.Quantifiers.{position-Some}
use Rattle.accounts.specs.Laws.{IsGroupTable, IsPasswdTable}
use Rattle.accounts.specs.Rows.{Group, Passwd}
use Rattle.hosts_join.specs.Hosts.{allows_gid, allows_uid}
use Rattle.hosts_join.specs.declared.host.Host.{Host}
use Rattle.mtree_inv.specs.declared.entry.Entry.{Entry}
use Rattle.unify.specs.declared.row_files.OwnerPlaces.{OwnerPlaces}
use Rattle.site_tables.specs.Hosts.{owner_fault}
use Rattle.unify.specs.Places.{ArePlaces}
use Rattle.unify.proofs.FileCounts.{both_allowed, no_group_row, no_row}
use Rattle.unify.proofs.Turns.{is_owned_none}

-- the places of the rows that own a file are those of each file with its numbers
pub own-each : (host : Host) (file : Entry) (places : OwnerPlaces) → places.uid ≡ file.uid → places.gid ≡ file.gid
    → position (λ (r : Passwd). nat_eq file.uid r.uid) host.users ≡ places.user → position (λ (r : Group). nat_eq file.gid r.gid) host.groups ≡ places.group
    → IsPasswdTable host.users → IsGroupTable host.groups → allows_uid host file.uid ≡ true → allows_gid host file.gid ≡ true → ArePlaces host places
own-each host file places uid gid user group users groups user_allowed group_allowed = λ other u g.
    let same_user : other.uid ≡ file.uid = u ∙ uid in
    let same_group : other.gid ≡ file.gid = g ∙ gid in
    record {
      owned = is_owned_none (owner_fault host [] other) true (both_allowed host other (ap (allows_uid host) same_user ∙ user_allowed) (ap (allows_gid host) same_group ∙ group_allowed)) refl;
      user = ap (λ n. position (λ (r : Passwd). nat_eq n r.uid) host.users) same_user ∙ user;
      group = ap (λ n. position (λ (r : Group). nat_eq n r.gid) host.groups) same_group ∙ group;
      users = users;
      groups = groups;
    }

-- a table has few enough rows for the place of each
pub user-few : (host : Host) (file : Entry) (place : Option ℕ) → position (λ (r : Passwd). nat_eq file.uid r.uid) host.users ≡ place → IsPasswdTable host.users → IfSome place (λ at. at < 65536)
user-few host file None here table = tt
user-few host file (Some at) here table =
    let found = position-Some (λ (r : Passwd). nat_eq file.uid r.uid) host.users at no_row here in
    omega (arith, found.0, table.few, length-map host.users (λ (r : Passwd). r.uid))

pub group-few : (host : Host) (file : Entry) (place : Option ℕ) → position (λ (r : Group). nat_eq file.gid r.gid) host.groups ≡ place → IsGroupTable host.groups → IfSome place (λ at. at < 65536)
group-few host file None here table = tt
group-few host file (Some at) here table =
    let found = position-Some (λ (r : Group). nat_eq file.gid r.gid) host.groups at no_group_row here in
    omega (arith, found.0, table.few, length-map host.groups (λ (r : Group). r.gid))
