-- What is known while the lines of a host's passwd come.
-- Words of the code and not of the subject: only private contracts cite them.
use Rattle.std.specs.Prelude.{◌≡◌, ℕ, List, Some}
use Rattle.std.specs.List.{All}
use Rattle.accounts.specs.Rows.{Passwd}
use Rattle.hosts_join.specs.Accounts.{Accounts}
use Rattle.hosts_join.specs.Laws.{IsOwnedAsTold}
use Rattle.hosts_join.specs.Site.{Joined}
use Rattle.hosts_join.specs.declared.host.Host.{Host}
use Rattle.mergedfiles.specs.declared.host_files.Coming.{Coming}
use Rattle.mergedfiles.specs.declared.host_files.Primary.{Primary}
use Rattle.mergedfiles.specs.HostFiles.{new_primary}

-- the number is the new one of the group that has, on the host, the number that the field holds
abbrev pub IsPrimary : Host → Accounts → List ℕ → Primary → Type 0
IsPrimary host groups m primary = primary.number ≡ new_primary host groups m primary.gid.now

-- among the users of a site, the row's name is the one that has the row's number on the host
-- h: the host's index
abbrev pub IsPlaced : Accounts → ℕ → Passwd → Type 0
IsPlaced users h row = IsOwnedAsTold users.names h row.uid (Some row.name)

-- so is each row that comes, and what is said of the group of the user before is true
pub record IsUnderWay (host : Host) (site : Joined) (m : List ℕ) (coming : Coming) : Type 0 where
  pub primary : IsPrimary host site.groups m coming.primary
  pub placed : All (IsPlaced site.users coming.index) coming.users.rows.now
