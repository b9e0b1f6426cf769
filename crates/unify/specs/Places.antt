-- The rows that own the files of an owner.
-- Words of the code and not of the subject: only private contracts and invariants cite them.
use Rattle.std.specs.Prelude.{◌≡◌, [], None, nat_eq, position}
use Rattle.accounts.specs.Laws.{IsGroupTable, IsPasswdTable}
use Rattle.mtree_inv.specs.declared.entry.Entry.{Entry}
use Rattle.hosts_join.specs.declared.host.Host.{Host}
use Rattle.unify.specs.declared.row_files.OwnerPlaces.{OwnerPlaces}
use Rattle.site_tables.specs.Hosts.{owner_fault}

-- the host allows the numbers of the file, and its rows that have them stand at these places
pub record Owns (host : Host) (places : OwnerPlaces) (file : Entry) : Type 0 where
  pub owned : owner_fault host [] file ≡ None
  pub user : position (λ r. nat_eq file.uid r.uid) host.users ≡ places.user
  pub group : position (λ r. nat_eq file.gid r.gid) host.groups ≡ places.group
  pub users : IsPasswdTable host.users
  pub groups : IsGroupTable host.groups

-- so it is with each file that has these numbers
abbrev pub ArePlaces : Host → OwnerPlaces → Type 0
ArePlaces host places =
    (file : Entry) → file.uid ≡ places.uid → file.gid ≡ places.gid → Owns host places file
