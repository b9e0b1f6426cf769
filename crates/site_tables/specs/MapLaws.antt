-- Which maps are counted: those that give a number to exactly the names of the hosts.
-- Source: passwd(5) and group(5) (rows with names); that a map is whole is this project's own rule.
use Rattle.std.specs.Prelude.{◌≡◌, ◌↔◌, ℕ, List, Ok, Err, Any}
use Rattle.hosts_join.specs.Accounts.{Pair}
use Rattle.hosts_join.specs.declared.host.Host.{Host}
use Rattle.unify_texts.specs.declared.fault.Fault.{Fault}
use Rattle.unify_texts.specs.declared.fault.Fault.TheVariants.{BadMap}
use Rattle.unify_texts.specs.declared.map_text.MapText.{MapText}
use Rattle.site_tables.specs.Mapped.{names_checked}

-- a line of the map gives the name a number
abbrev pub IsMapped : List Pair → List ℕ → Type 0
IsMapped pairs name = Any (λ pair. pair.name ≡ name) pairs

-- a user of some host has the name
abbrev pub IsSomeUser : List Host → List ℕ → Type 0
IsSomeUser hosts name = Any (λ host. Any (λ row. row.name ≡ name) host.users) hosts

-- and a group of some host
abbrev pub IsSomeGroup : List Host → List ℕ → Type 0
IsSomeGroup hosts name = Any (λ host. Any (λ row. row.name ≡ name) host.groups) hosts

-- the names that have a number are those of the hosts' users, and of their groups
pub record IsWholeMap (map : MapText) (hosts : List Host) : Type 0 where
  pub users : (name : List ℕ) → IsMapped map.users name ↔ IsSomeUser hosts name
  pub groups : (name : List ℕ) → IsMapped map.groups name ↔ IsSomeGroup hosts name

-- exactly these maps pass, and others are told as bad in the whole
pub record PassesIfWhole (map : MapText) (hosts : List Host) : Type 0 where
  pub passed : (names_checked map hosts ≡ Ok tt) ↔ IsWholeMap map hosts
  pub refused : (f : Fault) → names_checked map hosts ≡ Err f → f ≡ BadMap 0

abbrev pub CountedMapsAreWhole : Type 0
CountedMapsAreWhole = (map : MapText) (hosts : List Host) → PassesIfWhole map hosts
