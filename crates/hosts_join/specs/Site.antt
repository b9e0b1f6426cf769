-- The accounts of a kind on hosts, and a site.
-- Source: this project's own rule.
use Rattle.std.specs.Prelude.{◌≡◌, ℕ, ◌≤◌, List, map, length, Result, Ok}
use Rattle.idtext.specs.First.{◌>>=◌}
use Rattle.hosts_join.specs.declared.fault.SiteFault.{SiteFault}
use Rattle.hosts_join.specs.Kinds.{user_rows, group_rows}
use Rattle.hosts_join.specs.Rules.{joined}
use Rattle.hosts_join.specs.declared.Which.TheVariants.{User, Group}
use Rattle.hosts_join.specs.PinPairs.{PinPairs}
use Rattle.logindefs.specs.declared.ranges.IdRange.{IdRange}
use Rattle.logindefs.specs.declared.ranges.HostRanges.{HostRanges}
use Rattle.hosts_join.specs.Accounts.{Accounts, HostEntry, Pair, rows_from, grouped}
use Rattle.hosts_join.specs.declared.host.Host.{Host}
use Rattle.hosts_join.specs.declared.reserving.Reserved.{Reserved}

abbrev pub entry_on : (HostRanges → IdRange) → (HostRanges → IdRange) → Host → HostEntry
entry_on regular system h =
    record { name = h.name; regular = regular h.ranges; system = system h.ranges }

-- the accounts of a kind: on each host its rows, which stand in its regular or its system range or
-- in neither
abbrev pub accounts_of : (HostRanges → IdRange) → (HostRanges → IdRange)
    → (Host → List (List ℕ × ℕ)) → List Host → List Pair → List Reserved → Accounts
accounts_of regular system listed hosts pins reserved = record {
  hosts = map (entry_on regular system) hosts;
  names = grouped (rows_from (λ h. regular h.ranges) (λ h. system h.ranges) listed 0 hosts);
  pins = pins;
  reserved = reserved;
}

-- the users and the groups of a site, and how many hosts it has
pub record Joined : Type 0 where
  pub users : Accounts
  pub groups : Accounts
  pub hosts : ℕ

abbrev pub users_of : List Host → PinPairs → Accounts
users_of hosts pins =
    accounts_of (λ r. r.uid) (λ r. r.sys_uid) (λ h. user_rows h.users) hosts pins.users
    pins.reserved_users

abbrev pub groups_of : List Host → PinPairs → Accounts
groups_of hosts pins =
    accounts_of (λ r. r.gid) (λ r. r.sys_gid) (λ h. group_rows h.groups) hosts pins.groups
    pins.reserved_groups

-- users first, then groups
abbrev pub joined_site : List Host → PinPairs → Result Joined SiteFault
joined_site hosts pins =
    joined User (users_of hosts pins) >>= λ users.
    joined Group (groups_of hosts pins) >>= λ groups.
    Ok (record { users = users; groups = groups; hosts = length hosts })

-- both kinds stand on the same hosts, at most 64
pub record IsSite (site : Joined) : Type 0 where
  pub user_hosts : length site.users.hosts ≡ site.hosts
  pub group_hosts : length site.groups.hosts ≡ site.hosts
  pub few_hosts : site.hosts ≤ 64
