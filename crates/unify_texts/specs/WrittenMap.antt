-- The map text as it is written, and how it reads back.
-- Source: this project's own formats.
use Rattle.std.specs.Prelude.{◌≡◌, ℕ, ◌<◌, ◌≤◌, ◌++◌, List, [], ◌∷◌, length, map, flat_map}
use Rattle.std.specs.Prelude.{decimal, Some, Ok, is_some}
use Rattle.idtext.specs.Pieces.{lines as lines_of}
use Rattle.hosts_join.specs.Accounts.{Accounts, Pair, place_of}
use Rattle.hosts_join.specs.Lawful.{AreLawfulAccounts}
use Rattle.hosts_join.specs.Pairs.{number_of}
use Rattle.hosts_join.specs.PinPairs.{PinPairs}
use Rattle.hosts_join.specs.PinsText.{pins_of}
use Rattle.hosts_join.specs.Rules.{account, is_name}
use Rattle.hosts_join.specs.Site.{Joined}
use Rattle.hosts_join.specs.declared.Which.{Which}
use Rattle.hosts_join.specs.declared.Which.TheVariants.{User, Group}
use Rattle.ownership.specs.Mappings.{IsMapping, number_under, number_at}
use Rattle.ownership.specs.declared.mapping.Mappings.{Mappings}
use Rattle.mergedfiles.specs.Order.{by_bytes}
use Rattle.unify_texts.specs.declared.map_text.MapText.{MapText}
use Rattle.unify_texts.specs.Maps.{map_of}
use Rattle.unify_texts.specs.Words.{line, which_word}

-- a name with its number under a mapping
abbrev pub pair_for : Accounts → List ℕ → List ℕ → Pair
pair_for a m name = record { name = name; number = number_under m (place_of a.names name) 0 }

-- each name with its number, the names in byte order
abbrev pub numbered : Accounts → List ℕ → List Pair
numbered a m = map (pair_for a m) (by_bytes a)

-- KIND NAME NUMBER
abbrev pub map_line : Which → Pair → List ℕ
map_line kind p = line (which_word kind) (p.name ∷ decimal p.number ∷ [])

-- users before groups
abbrev pub map_text : Joined → Mappings → List ℕ
map_text site m =
    flat_map (map_line User) (numbered site.users m.users)
    ++ flat_map (map_line Group) (numbered site.groups m.groups)

-- the pairs say exactly the mapping: each name has its number, and no other name has one
pub record SayMapping (a : Accounts) (m : List ℕ) (pairs : List Pair) : Type 0 where
  pub numbers : (i : ℕ) → i < length a.names
      → number_of pairs (account a i).name ≡ Some (number_at m i)
  pub names : (n : List ℕ) → is_some (number_of pairs n) ≡ is_name a.names n

-- a map text that is read as these mappings
pub record ReadsBack (site : Joined) (m : Mappings) (text : List ℕ) : Type 0 where
  pub pairs : MapText
  pub read : map_of text ≡ Ok pairs
  pub users : SayMapping site.users m.users pairs.users
  pub groups : SayMapping site.groups m.groups pairs.groups

-- a number for each name of accounts that were joined
pub record IsMappingOf (a : Accounts) (m : List ℕ) : Type 0 where
  pub lawful : AreLawfulAccounts a
  pub numbers : IsMapping m
  pub len : length m ≡ length a.names

-- the map that is written reads back as the mappings
abbrev pub WrittenMapsReadBack : Type 0
WrittenMapsReadBack =
    (site : Joined) (m : Mappings) → IsMappingOf site.users m.users
    → IsMappingOf site.groups m.groups → ReadsBack site m (map_text site m)

-- each name of mappings with its number, in the order of the map text, and nothing reserved
abbrev pub mapped_pins : Joined → Mappings → PinPairs
mapped_pins site m = record {
  users = numbered site.users m.users;
  groups = numbered site.groups m.groups;
  reserved_users = [];
  reserved_groups = [];
}

-- the map that is written is a pins text of its names with their numbers, where it has no more
-- lines than a pins text may have
abbrev pub WrittenMapsArePins : Type 0
WrittenMapsArePins =
    (site : Joined) (m : Mappings) → IsMappingOf site.users m.users
    → IsMappingOf site.groups m.groups → length (lines_of (map_text site m)) ≤ 1048576
    → pins_of (map_text site m) ≡ Ok (mapped_pins site m)
