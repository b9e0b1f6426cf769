-- A written map by example, byte by byte.
-- Source: this project's own formats.
use Rattle.std.specs.Prelude.{◌≡◌, ℕ, List, [], ◌∷◌, ◌++◌, map, codes}
use Rattle.hosts_join.specs.Accounts.{Accounts}
use Rattle.hosts_join.specs.Site.{Joined}
use Rattle.ownership.specs.declared.mapping.Mappings.{Mappings}
use Rattle.unify_texts.specs.WrittenMap.{map_text}

-- accounts with these names
abbrev pub named : List (List ℕ) → Accounts
named names = record {
  hosts = [];
  names = map (λ name. record { name = name; spots = [] }) names;
  pins = [];
  reserved = [];
}

-- names in the order in which they appeared
abbrev pub site : Joined
site = record {
  users = named (codes "zoe" ∷ codes "ann" ∷ codes "b c" ∷ []);
  groups = named (codes "adm" ∷ codes "Staff" ∷ []);
  hosts = 1;
}

-- a number for each name in that order
abbrev pub mappings : Mappings
mappings = record { users = 1003 ∷ 1001 ∷ 0 ∷ []; groups = 4 ∷ 1001 ∷ [] }

abbrev pub ExampleOfMap : Type 0
ExampleOfMap =
    map_text site mappings ≡ codes "user ann 1001\nuser b c 0\nuser zoe 1003\n"
    ++ codes "group Staff 1001\ngroup adm 4\n"
