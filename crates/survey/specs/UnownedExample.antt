-- The numbers without an account of two hosts, by example: in which order they stand.
-- Source: this project's own rule; the files and the hosts are this project's own.
use Rattle.std.specs.Prelude.{◌≡◌, ℕ, List, [], ◌∷◌, codes}
use Rattle.accounts.specs.Rows.{Passwd, Group}
use Rattle.mtree_inv.specs.declared.entry.Entry.{Entry}
use Rattle.hosts_join.specs.declared.host.Host.{Host}
use Rattle.kept_accounts.specs.Reserving.{UnownedNumbers, no_numbers}
use Rattle.kept_accounts.specs.declared.reserving.UnownedNumber.{UnownedNumber}
use Rattle.survey.specs.Unowned.{unowned_with}

-- ---- the hosts

abbrev ann : Passwd
ann = record {
  line = 1;
  name = codes "ann";
  password = [];
  uid = 1002;
  gid = 50;
  comment = [];
  home = [];
  shell = [];
}

abbrev staff : Group
staff = record { line = 1; name = codes "staff"; password = []; gid = 50; members = [] }

-- of a host, with this name, the user ann, 1002, and the group staff, 50
abbrev named : Host → List ℕ → Host
named host name = record host { name = name; users = ann ∷ []; groups = staff ∷ [] }

-- web spares the uids from 0 to 9 and the gids from 10 to 19
abbrev pub web : Host → Host
web host = record (named host (codes "web")) {
  spared_users = record { low = 0; high = 9 } ∷ [];
  spared_groups = record { low = 10; high = 19 } ∷ [];
}

-- mail spares none
abbrev pub mail : Host → Host
mail host = record (named host (codes "mail")) { spared_users = []; spared_groups = [] }

-- ---- their files

abbrev file : ℕ → ℕ → Entry
file uid gid = record { path = codes "a"; uid = uid; gid = gid }

abbrev pub files_of_web : List Entry
files_of_web =
    file 2009 3004 ∷ file 1002 3001 ∷ file 2003 50 ∷ file 2009 3006 ∷ file 7 17 ∷ file 17 7
    ∷ file 2005 3004 ∷ []

abbrev pub files_of_mail : List Entry
files_of_mail =
    file 1002 50 ∷ file 2009 17 ∷ file 7 3001 ∷ file 2001 50 ∷ file 7 17 ∷ []

-- ---- what is found

-- a number that is found on the host with this name
abbrev found : List ℕ → ℕ → UnownedNumber
found name number = record { host = name; number = number }

-- host by host, and of each host each number once, in the order in which files have them first
abbrev pub all_found : UnownedNumbers
all_found = record {
  users =
      found (codes "web") 2009 ∷ found (codes "web") 2003 ∷ found (codes "web") 17
      ∷ found (codes "web") 2005 ∷ found (codes "mail") 2009 ∷ found (codes "mail") 7
      ∷ found (codes "mail") 2001 ∷ [];
  groups =
      found (codes "web") 3004 ∷ found (codes "web") 3001 ∷ found (codes "web") 3006
      ∷ found (codes "web") 7 ∷ found (codes "mail") 17 ∷ found (codes "mail") 3001 ∷ [];
}

-- whatever ranges the hosts have
abbrev pub UnownedByExample : Type 0
UnownedByExample = (host : Host)
    → unowned_with (unowned_with no_numbers (web host) files_of_web) (mail host) files_of_mail
    ≡ all_found
