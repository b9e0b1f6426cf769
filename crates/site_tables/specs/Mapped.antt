-- What is read of a site before its inventories, where a map is counted: the map has exactly the
-- names of the hosts.
-- Source: this project's own rule.
use Rattle.std.specs.Prelude.{ℕ, Bool, List, Result, Ok, Err, is_some, find, bytes_eq}
use Rattle.std.specs.Prelude.{if◌then◌else◌, ◌&&◌}
use Rattle.std.specs.List.{list_all, list_any}
use Rattle.idtext.specs.First.{◌>>=◌}
use Rattle.hosts_join.specs.declared.texts.HostText.{HostText}
use Rattle.accounts.specs.Rows.{Passwd, Group}
use Rattle.hosts_join.specs.Checks.{hosts_checked}
use Rattle.unify_texts.specs.declared.fault.Fault.{Fault}
use Rattle.unify_texts.specs.declared.fault.Fault.TheVariants.{BadMap}
use Rattle.unify_texts.specs.declared.map_text.MapText.{MapText}
use Rattle.hosts_join.specs.Accounts.{Pair}
use Rattle.hosts_join.specs.Pairs.{number_of}
use Rattle.unify_texts.specs.Maps.{map_of}
use Rattle.hosts_join.specs.declared.host.Host.{Host}
use Rattle.site_tables.specs.declared.rules.KeepRules.{KeepRules}
use Rattle.site_tables.specs.Told.{in_site}
use Rattle.site_tables.specs.Others.{others_loaded}

-- each of these names has a number
abbrev pub are_users_mapped : List Pair → List Passwd → Bool
are_users_mapped pairs rows = list_all (λ row. is_some (number_of pairs row.name)) rows

abbrev pub are_groups_mapped : List Pair → List Group → Bool
are_groups_mapped pairs rows = list_all (λ row. is_some (number_of pairs row.name)) rows

-- a host has the name
abbrev pub has_user : List ℕ → Host → Bool
has_user name host = is_some (find (λ row. bytes_eq name row.name) host.users)

abbrev pub has_group : List ℕ → Host → Bool
has_group name host = is_some (find (λ row. bytes_eq name row.name) host.groups)

-- the names of the map are exactly the names of the hosts
abbrev pub is_user_map : List Pair → List Host → Bool
is_user_map pairs hosts =
    list_all (λ host. are_users_mapped pairs host.users) hosts
    && list_all (λ p. list_any (has_user p.name) hosts) pairs

abbrev pub is_group_map : List Pair → List Host → Bool
is_group_map pairs hosts =
    list_all (λ host. are_groups_mapped pairs host.groups) hosts
    && list_all (λ p. list_any (has_group p.name) hosts) pairs

abbrev pub names_checked : MapText → List Host → Result (Unit {0}) Fault
names_checked pairs hosts =
    if is_user_map pairs.users hosts && is_group_map pairs.groups hosts then Ok tt
    else Err (BadMap 0)

-- a map of exactly the names of these hosts: the map, and its names
abbrev pub mapped_names : List ℕ → List Host → Result MapText Fault
mapped_names map_text hosts =
    map_of map_text >>= λ pairs. names_checked pairs hosts >>= λ named. Ok pairs

pub record BegunCost : Type 0 where
  pub hosts : List Host
  pub names : MapText

-- the host list; host by host its files but the inventory; the keep text; the map, and its names
unfoldable pub cost_begun : List HostText → KeepRules → List ℕ → Result BegunCost Fault
cost_begun texts keep map_text = do
  listed ← in_site (hosts_checked texts)
  others ← others_loaded texts keep
  pairs ← mapped_names map_text others.hosts
  Ok (record { hosts = others.hosts; names = pairs })
