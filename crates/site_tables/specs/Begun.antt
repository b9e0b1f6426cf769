-- What is read of a site before its inventories.
-- Source: this project's own rule.
use Rattle.std.specs.Prelude.{◌≡◌, ◌≤◌, true, List, length, All}
use Rattle.std.specs.Prelude.{Result, Ok}
use Rattle.idtext.specs.First.{◌>>=◌}
use Rattle.hosts_join.specs.Checks.{hosts_checked, is_host_name}
use Rattle.hosts_join.specs.Hosts.{IsLawfulHost, SparesReserved}
use Rattle.hosts_join.specs.Laws.{HasLawfulAccounts, KnowsItsHosts}
use Rattle.hosts_join.specs.Site.{Joined}
use Rattle.hosts_join.specs.declared.host.Host.{Host}
use Rattle.hosts_join.specs.declared.texts.HostText.{HostText}
use Rattle.mergedfiles.specs.InPart.{WasReadInPart}
use Rattle.mergedfiles.specs.Together.{AreJoined}
use Rattle.unify_texts.specs.declared.fault.Fault.{Fault}
use Rattle.site_tables.specs.declared.rules.SiteRules.{SiteRules}
use Rattle.site_tables.specs.declared.site.JoinedHosts.{JoinedHosts}
use Rattle.site_tables.specs.Told.{in_site}
use Rattle.site_tables.specs.Others.{others_loaded, pinned_site}
use Rattle.site_tables.specs.Sparing.{LeavesItsReserved}

pub record BegunSite : Type 0 where
  pub hosts : List Host
  pub joined : Joined

-- the host list; host by host its files but the inventory; the keep text; the pins text; the join,
-- users and then groups
unfoldable pub site_begun : List HostText → SiteRules → Result BegunSite Fault
site_begun texts rules = do
  listed ← in_site (hosts_checked texts)
  others ← others_loaded texts rules.keep
  joined ← pinned_site others rules.pins
  Ok (record { hosts = others.hosts; joined = joined })

-- hosts that were read, and spare reserved numbers alone, and what was joined from them
pub record AreTogether (hosts : List Host) (joined : Joined) : Type 0 where
  pub few : length hosts ≤ 64
  pub read : All WasReadInPart hosts
  pub lawful : All IsLawfulHost hosts
  pub together : AreJoined hosts joined
  pub known : KnowsItsHosts hosts joined
  pub spares : All (SparesReserved joined) hosts
  pub leaves : LeavesItsReserved joined
  pub accounts : HasLawfulAccounts joined
  pub named : All (λ h. is_host_name h.name ≡ true) hosts

-- the hosts with their tables, and the accounts over all of them
pub record HoldsBegun (begun : BegunSite) (held : JoinedHosts) : Type 0 where
  pub hosts : held.hosts.items ≡ begun.hosts
  pub joined : held.site ≡ begun.joined
  pub whole : AreTogether held.hosts.items held.site
