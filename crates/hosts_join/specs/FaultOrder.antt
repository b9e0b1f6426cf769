-- Which of its two kinds a site tells a fault of.
-- Source: this project's own rule.
use Rattle.std.specs.Prelude.{◌≡◌, ◌⊎◌, List, Ok, Err}
use Rattle.hosts_join.specs.Accounts.{Accounts}
use Rattle.hosts_join.specs.PinPairs.{PinPairs}
use Rattle.hosts_join.specs.Rules.{joined}
use Rattle.hosts_join.specs.Site.{groups_of, joined_site, users_of}
use Rattle.hosts_join.specs.declared.Which.TheVariants.{User, Group}
use Rattle.hosts_join.specs.declared.fault.SiteFault.{SiteFault}
use Rattle.hosts_join.specs.declared.host.Host.{Host}

-- Where hosts are not joined, the fault of users is told, or, where they have none, that of groups.
abbrev pub UsersAreToldFirst : Type 0
UsersAreToldFirst =
    (hosts : List Host) (pins : PinPairs) (fault : SiteFault) → joined_site hosts pins ≡ Err fault
    → (joined User (users_of hosts pins) ≡ Err fault)
    ⊎ ((users : Accounts) × (joined User (users_of hosts pins) ≡ Ok users)
    × (joined Group (groups_of hosts pins) ≡ Err fault))
