-- What holds of every site that was read.
-- Source: this project's own rule.
use Rattle.std.specs.Prelude.{◌≡◌, ◌≤◌, ℕ, true, List, length, Some, slice_get}
use Rattle.std.specs.List.{All}
use Rattle.mtree_inv.specs.declared.entry.Entry.{Entry}
use Rattle.mtree_inv.specs.Files.{AreFiles}
use Rattle.hosts_join.specs.Checks.{is_host_name}
use Rattle.hosts_join.specs.Hosts.{IsLawfulHost, SparesReserved}
use Rattle.hosts_join.specs.Laws.{HasLawfulAccounts, KnowsHost}
use Rattle.hosts_join.specs.Site.{Joined}
use Rattle.hosts_join.specs.declared.host.Host.{Host}
use Rattle.mergedfiles.specs.InPart.{WasReadInPart}
use Rattle.mergedfiles.specs.Together.{AreJoined}
use Rattle.unify_texts.specs.Limits.{most_files}
use Rattle.unify.specs.Outcomes.{hosts_in}
use Rattle.site_tables.specs.Sparing.{AreAllowed, AreOwnedOrReserved, LeavesItsReserved}
use Rattle.unify.specs.Reading.{WholeSite, files_of_site}

-- A host that was read, with its files: its rows are some of those of a passwd and a group, and its
-- tables are lawful, as its name is; no path stands twice, each file has a user and a group, or
-- numbers that the host spares; what it spares is reserved, and the accounts over all hosts know
-- its own.
-- h: its index
pub record IsReadHost (joined : Joined) (h : ℕ) (host : Host) (files : List Entry) : Type 0 where
  pub named : is_host_name host.name ≡ true
  pub read : WasReadInPart host
  pub lawful : IsLawfulHost host
  pub files_are : AreFiles files
  pub few : length files ≤ most_files
  pub allowed : All (λ f. AreAllowed host f.uid f.gid) files
  pub spares : SparesReserved joined host
  pub known : KnowsHost joined h host

pub record IsWhole (site : WholeSite) : Type 0 where
  pub few_hosts : length site.hosts ≤ 64
  pub each_host : (h : ℕ) (host : Host) (files : List Entry)
      → slice_get site.hosts h ≡ Some (host, files) → IsReadHost site.joined h host files
  -- the accounts over all hosts were joined from these, with some pins
  pub together : AreJoined (hosts_in site) site.joined
  pub lawful : HasLawfulAccounts site.joined
  pub leaves : LeavesItsReserved site.joined
  -- each file has its owners among the accounts over all hosts, or reserved numbers
  pub owned : All (λ f. AreOwnedOrReserved site.joined f.host f.uid f.gid) (files_of_site site)
