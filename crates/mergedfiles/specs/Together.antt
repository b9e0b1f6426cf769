-- Hosts, and what was joined from them.
-- Source: this project's own rule.
use Rattle.std.specs.Prelude.{◌≡◌, List}
use Rattle.hosts_join.specs.PinPairs.{PinPairs}
use Rattle.hosts_join.specs.Site.{Joined, users_of, groups_of}
use Rattle.hosts_join.specs.declared.host.Host.{Host}

-- the site was joined from these hosts, with some pins
pub record AreJoined (hosts : List Host) (site : Joined) : Type 0 where
  pub pins : PinPairs
  pub users : site.users ≡ users_of hosts pins
  pub groups : site.groups ≡ groups_of hosts pins
