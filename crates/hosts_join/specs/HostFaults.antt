-- What the faults of the host list and of primary groups say, in other words.
-- Source: passwd(5) and group(5) (a user's primary group); the rest is this project's own rule.
use Rattle.std.specs.Prelude.{◌≡◌, ◌⊎◌, ℕ, ◌<◌, ◌≤◌, List, length, take, Ok, Err}
use Rattle.std.specs.List.{Contains}
use Rattle.accounts.specs.Rows.{Group, Passwd}
use Rattle.hosts_join.specs.BadLines.{AllMayStand, IsFirstBad}
use Rattle.hosts_join.specs.Checks.{hosts_checked, primary_checked}
use Rattle.hosts_join.specs.HostNames.{IsOfHostBytes}
use Rattle.hosts_join.specs.declared.fault.SiteFault.{SiteFault}
use Rattle.hosts_join.specs.declared.fault.SiteFault.TheVariants.{BadHostName, HostTwice, HostCount}
use Rattle.hosts_join.specs.declared.fault.SiteFault.TheVariants.{NoPrimaryGroup}
use Rattle.hosts_join.specs.declared.host.Host.{Host}
use Rattle.hosts_join.specs.declared.texts.HostText.{HostText}

-- one of the hosts has the name
abbrev pub IsNameOfSome : List HostText → List ℕ → Type 0
IsNameOfSome hosts name = (host : HostText) × Contains hosts host × (host.name ≡ name)

-- the host's name is made as those of hosts are, and no earlier host has it
abbrev pub MayBeListed : List HostText → HostText → Type 0
MayBeListed before host = IsOfHostBytes host.name × (¬ IsNameOfSome before host.name)

-- there are 1 to 64 hosts, and each may be listed
pub record AreListed (hosts : List HostText) : Type 0 where
  pub some : 1 ≤ length hosts
  pub few : length hosts ≤ 64
  pub each : AllMayStand MayBeListed hosts (length hosts)

abbrev pub AcceptedHostsAreListed : Type 0
AcceptedHostsAreListed =
    (hosts : List HostText) (done : Unit {0}) → hosts_checked hosts ≡ Ok done → AreListed hosts

-- the fault tells how many hosts there are; or the name of the first that may not be listed, and
-- what is wrong with it
abbrev pub IsOfHosts : SiteFault → List HostText → Type 0
IsOfHosts (HostCount count) hosts =
    (count ≡ length hosts) × ((length hosts < 1) ⊎ (64 < length hosts))
IsOfHosts (BadHostName name) hosts =
    (before : ℕ) × (bad : IsFirstBad MayBeListed hosts before) × (bad.item.name ≡ name)
    × (¬ IsOfHostBytes name)
IsOfHosts (HostTwice name) hosts =
    (before : ℕ) × (bad : IsFirstBad MayBeListed hosts before) × (bad.item.name ≡ name)
    × IsNameOfSome (take before hosts) name
IsOfHosts other hosts = ⊥

abbrev pub HostFaultsAreThere : Type 0
HostFaultsAreThere =
    (hosts : List HostText) (fault : SiteFault) → hosts_checked hosts ≡ Err fault
    → IsOfHosts fault hosts

-- a group of the host has the gid of the user
abbrev pub HasPrimaryGroup : Host → Passwd → Type 0
HasPrimaryGroup host user = (group : Group) × Contains host.groups group × (group.gid ≡ user.gid)

-- where it is so of each user, whoever stands before
abbrev pub AcceptedUsersHaveGroups : Type 0
AcceptedUsersHaveGroups =
    (host : Host) (done : Unit {0}) → primary_checked host ≡ Ok done
    → AllMayStand (λ before user. HasPrimaryGroup host user) host.users (length host.users)

-- else the host is told, and its first user of whom it is not so
abbrev pub PrimaryFaultsAreThere : Type 0
PrimaryFaultsAreThere =
    (host : Host) (fault : SiteFault) → primary_checked host ≡ Err fault
    → (before : ℕ)
    × (bad : IsFirstBad (λ before user. HasPrimaryGroup host user) host.users before)
    × (fault ≡ NoPrimaryGroup host.name bad.item.name)
