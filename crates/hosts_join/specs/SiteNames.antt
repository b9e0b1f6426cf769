-- Which hosts and which names a site has, in which order, and in which order the hosts of a name.
-- Sources: passwd(5) and group(5) (rows with names); the order is this project's own rule.
use Rattle.std.specs.Prelude.{◌≡◌, ℕ, ◌<◌, not, List, [], ◌∷◌, ◌++◌, map, filter}
use Rattle.std.specs.List.{All, AllPairs, list_any}
use Rattle.std.specs.Str.{bytes_eq}
use Rattle.hosts_join.specs.Accounts.{Account, Accounts}
use Rattle.hosts_join.specs.Hosts.{IsLawfulHost}
use Rattle.hosts_join.specs.PinPairs.{PinPairs}
use Rattle.hosts_join.specs.Site.{groups_of, users_of}
use Rattle.hosts_join.specs.declared.host.Host.{Host}

-- of both kinds the hosts have the names that they were given with, in their order
abbrev pub KindsNameTheirHosts : Type 0
KindsNameTheirHosts =
    (hosts : List Host) (pins : PinPairs)
    → (map (λ entry. entry.name) (users_of hosts pins).hosts ≡ map (λ host. host.name) hosts)
    × (map (λ entry. entry.name) (groups_of hosts pins).hosts ≡ map (λ host. host.name) hosts)

abbrev pub names_of : Accounts → List (List ℕ)
names_of accounts = map (λ account. account.name) accounts.names

-- the names that the account files of a host list, in the order of their lines
abbrev pub user_names : Host → List (List ℕ)
user_names host = map (λ row. row.name) host.users

abbrev pub group_names : Host → List (List ℕ)
group_names host = map (λ row. row.name) host.groups

-- those of the names that are not among the old ones
abbrev pub without : List (List ℕ) → List (List ℕ) → List (List ℕ)
without old names = filter (λ name. not (list_any (bytes_eq name) old)) names

-- The order of the names that hosts give: where there is no host there is none, and one host more
-- leaves all names where they stood and adds its own that are not among them at the end, in the
-- order of its rows.
-- listed: the names that a host lists; names: those that hosts give
pub record StandAsTheyAppear (listed : Host → List (List ℕ)) (names : List Host → List (List ℕ))
    : Type 0 where
  pub none : names [] ≡ []
  pub more : (before : List Host) (host : Host) → IsLawfulHost host
      → names (before ++ host ∷ []) ≡ names before ++ without (names before) (listed host)

abbrev pub NamesStandAsTheyAppear : Type 0
NamesStandAsTheyAppear =
    (pins : PinPairs)
    → StandAsTheyAppear user_names (λ hosts. names_of (users_of hosts pins))
    × StandAsTheyAppear group_names (λ hosts. names_of (groups_of hosts pins))

-- the hosts that have the name stand in the order of all hosts, each of them once
abbrev pub StandsByHosts : Account → Type 0
StandsByHosts account = AllPairs (λ one later. one.host < later.host) account.spots

-- where the hosts are lawful, so they stand for each name of a site, of users and of groups
abbrev pub SpotsStandByHosts : Type 0
SpotsStandByHosts =
    (hosts : List Host) (pins : PinPairs) → All IsLawfulHost hosts
    → All StandsByHosts (users_of hosts pins).names
    × All StandsByHosts (groups_of hosts pins).names
