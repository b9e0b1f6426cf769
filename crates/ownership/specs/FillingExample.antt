-- Weights and a filling by example.
-- Source: this project's own rule.
use Rattle.std.specs.Prelude.{◌≡◌, ℕ, ◌<◌, ◌≤◌, List, [], ◌∷◌, codes}
use Rattle.hosts_join.specs.Accounts.{Account, Accounts, HostEntry}
use Rattle.hosts_join.specs.declared.Standing.TheVariants as on
use Rattle.ownership.specs.Files.{File}
use Rattle.ownership.specs.Weights.{IsFilled, weight}

abbrev pub named : List ℕ → HostEntry
named name = record {
  name = name;
  regular = record { low = 1000; high = 60000 };
  system = record { low = 101; high = 999 };
}

-- a user who is on one host alone, with the number 1001
abbrev pub on_host : ℕ → List ℕ → Account
on_host host name = record {
  name = name;
  spots = record { host = host; number = 1001; standing = on.Regular } ∷ [];
}

-- three users on three hosts
abbrev pub accounts : Accounts
accounts = record {
  hosts = named (codes "a") ∷ named (codes "b") ∷ named (codes "c") ∷ [];
  names = on_host 0 (codes "zoe") ∷ on_host 1 (codes "bob") ∷ on_host 2 (codes "alice") ∷ [];
  pins = [];
  reserved = [];
}

abbrev pub file_on : ℕ → File
file_on host = record { host = host; number = 1001 }

-- a system user who is on one host alone
abbrev pub system_on : ℕ → List ℕ → Account
system_on host name = record {
  name = name;
  spots = record { host = host; number = 200; standing = on.System } ∷ [];
}

-- two of them on two hosts; 102 is pinned for a name that no host has
abbrev pub system_accounts : Accounts
system_accounts = record {
  hosts = named (codes "a") ∷ named (codes "b") ∷ [];
  names = system_on 0 (codes "www") ∷ system_on 1 (codes "mail") ∷ [];
  pins = record { name = codes "ftp"; number = 102 } ∷ [];
  reserved = [];
}

-- three files of zoe's, two of bob's, one of alice's
abbrev pub files : List File
files = file_on 0 ∷ file_on 0 ∷ file_on 0 ∷ file_on 1 ∷ file_on 1 ∷ file_on 2 ∷ []

-- a file weighs four, more than all three rows; zoe's number three files and a row
abbrev pub ExampleOfWeights : Type 0
ExampleOfWeights =
    (weight accounts files 0 1001 ≡ 13) × (weight accounts files 2 1001 ≡ 5)
    × (weight accounts files 2 1000 ≡ 0)

-- bob and alice wait
abbrev pub Waits : ℕ → Type 0
Waits i = 1 ≤ i

-- zoe has 1001, so alice is served 1000, and bob after her 1002; not bob before her
abbrev pub ExampleOfFilling : Type 0
ExampleOfFilling =
    IsFilled accounts Waits (1001 ∷ 1002 ∷ 1000 ∷ [])
    × (¬ IsFilled accounts Waits (1001 ∷ 1000 ∷ 1002 ∷ []))

abbrev pub BothWait : ℕ → Type 0
BothWait i = i < 2

-- mail is served 101, the smallest, and www after it 103; not www before mail, and neither the
-- greatest numbers of the pool
abbrev pub ExampleOfSystemFilling : Type 0
ExampleOfSystemFilling =
    IsFilled system_accounts BothWait (103 ∷ 101 ∷ [])
    × (¬ IsFilled system_accounts BothWait (101 ∷ 103 ∷ []))
    × (¬ IsFilled system_accounts BothWait (998 ∷ 999 ∷ []))
