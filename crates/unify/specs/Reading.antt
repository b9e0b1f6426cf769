-- What the texts of hosts and the rules of a site say of it, or the first fault: the host list;
-- host by host its files but the inventory; the keep text; the pins text; the join, users and then
-- groups; host by host the inventory and its owners.
-- Source: this project's own rule.
use Rattle.std.specs.Prelude.{ℕ, ◌+◌, List, [], ◌∷◌, ◌++◌, map, Result, Ok}
use Rattle.idtext.specs.First.{◌>>=◌, each}
use Rattle.mtree_inv.specs.declared.entry.Entry.{Entry}
use Rattle.hosts_join.specs.Checks.{hosts_checked}
use Rattle.hosts_join.specs.Site.{Joined}
use Rattle.hosts_join.specs.declared.host.Host.{Host}
use Rattle.hosts_join.specs.declared.texts.HostText.{HostText}
use Rattle.ownership.specs.Files.{Added}
use Rattle.unify_texts.specs.declared.fault.Fault.{Fault}
use Rattle.site_tables.specs.declared.rules.SiteRules.{SiteRules}
use Rattle.site_tables.specs.Told.{in_site}
use Rattle.site_tables.specs.Others.{others_loaded, pinned_site}
use Rattle.site_tables.specs.Loading.{loaded_from}
use Rattle.unify.specs.Count.{site_of}

-- a site that was read: its hosts with the files of their inventories, and the accounts over all
-- hosts
pub record WholeSite : Type 0 where
  pub hosts : List (Host × List Entry)
  pub joined : Joined

-- a file of the host at the index
abbrev pub added_on : ℕ → Entry → Added
added_on host file = record { host = host; uid = file.uid; gid = file.gid }

-- the files of all hosts, where the first host stands at the index
abbrev pub added_from : ℕ → List (Host × List Entry) → List Added
added_from host [] = []
added_from host (here ∷ more) = map (added_on host) here.1 ++ added_from (host + 1) more

abbrev pub files_of_site : WholeSite → List Added
files_of_site site = added_from 0 site.hosts

unfoldable pub site_read : List HostText → SiteRules → Result WholeSite Fault
site_read texts rules = do
  listed ← in_site (hosts_checked texts)
  others ← others_loaded texts rules.keep
  joined ← pinned_site others rules.pins
  hosts ← each site_of (loaded_from others.hosts (map (λ t. t.mtree) texts))
  Ok (record { hosts = hosts; joined = joined })
