-- The names that are given a number before all others, by example: in which order they stand.
-- Source: this project's own rule; the names of the example are this project's own.
use Rattle.std.specs.Prelude.{◌≡◌, ℕ, List, [], ◌∷◌, codes}
use Rattle.hosts_join.specs.Accounts.{Account, Accounts, HostEntry, Pair}
use Rattle.hosts_join.specs.Rules.{claims}
use Rattle.hosts_join.specs.declared.Standing.{Standing}
use Rattle.hosts_join.specs.declared.Standing.TheVariants.{Pinning, Regular}

abbrev web : HostEntry
web = record {
  name = codes "web";
  regular = record { low = 1000; high = 60000 };
  system = record { low = 100; high = 999 };
}

-- a name that the host web has, with its number there
abbrev on_web : List ℕ → ℕ → Standing → Account
on_web name number standing = record {
  name = name;
  spots = record { host = 0; number = number; standing = standing } ∷ [];
}

abbrev pair : List ℕ → ℕ → Pair
pair name number = record { name = name; number = number }

-- web pins ben, and eve is free; the pins text pins ann, whom web has, and zoe and kim, whom no
-- host has
abbrev pub example : Accounts
example = record {
  hosts = web ∷ [];
  names = on_web (codes "ben") 7 Pinning ∷ on_web (codes "eve") 1001 Regular
      ∷ on_web (codes "ann") 1002 Regular ∷ [];
  pins = pair (codes "zoe") 9 ∷ pair (codes "ann") 8 ∷ pair (codes "kim") 6 ∷ [];
  reserved = [];
}

-- the names of the site as they appear, and then the absent ones as their lines stand
abbrev pub ExampleOfClaims : Type 0
ExampleOfClaims =
    claims example
    ≡ pair (codes "ben") 7 ∷ pair (codes "ann") 8 ∷ pair (codes "zoe") 9 ∷ pair (codes "kim") 6 ∷ []
