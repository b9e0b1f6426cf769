-- What is reserved on a site of two hosts, by example: all of it, in order, and by whom.
-- Source: this project's own rule; the text and the hosts are this project's own.
use Rattle.std.specs.Prelude.{◌≡◌, ℕ, true, List, [], ◌∷◌, ◌++◌, Ok, codes}
use Rattle.accounts.specs.Rows.{Passwd, Group}
use Rattle.logindefs.specs.declared.ranges.HostRanges.{HostRanges}
use Rattle.logindefs.specs.declared.ranges.IdRange.{IdRange}
use Rattle.hosts_join.specs.declared.host.Host.{Host}
use Rattle.hosts_join.specs.declared.reserving.Reserved.{Reserved}
use Rattle.hosts_join.specs.declared.reserving.Reserver.TheVariants as by
use Rattle.keep_text.specs.KeepTexts.{keep_of}
use Rattle.keep_text.specs.declared.keep_text.KeepText.{KeepText}
use Rattle.kept_accounts.specs.Reserving.{UnownedNumbers, reserved_users, reserved_groups}
use Rattle.kept_accounts.specs.declared.reserving.UnownedNumber.{UnownedNumber}

-- a line with its newline
abbrev ended : List ℕ → List ℕ
ended line = line ++ 10 ∷ []

-- the numbers from low to high
abbrev between : ℕ → ℕ → IdRange
between low high = record { low = low; high = high }

-- ---- the keep text

-- of each kind one name, and two ranges of which the second is below the first
abbrev pub keep_text : List ℕ
keep_text =
    ended (codes "unowned users") ++ ended (codes "user kim")
    ++ ended (codes "users 60001 65000") ++ ended (codes "groups 90 99")
    ++ ended (codes "users 0 999") ++ ended (codes "group wine")
    ++ ended (codes "unowned groups") ++ ended (codes "groups 0 19")

abbrev pub keep : KeepText
keep = record {
  users = record {
    names = codes "kim" ∷ [];
    ranges = between 60001 65000 ∷ between 0 999 ∷ [];
    unowned = true;
  };
  groups = record {
    names = codes "wine" ∷ [];
    ranges = between 90 99 ∷ between 0 19 ∷ [];
    unowned = true;
  };
}

-- ---- the hosts

abbrev user : List ℕ → ℕ → Passwd
user name uid = record {
  line = 1;
  name = name;
  password = [];
  uid = uid;
  gid = 0;
  comment = [];
  home = [];
  shell = [];
}

abbrev group : List ℕ → ℕ → Group
group name gid = record { line = 1; name = name; password = []; gid = gid; members = [] }

abbrev host : HostRanges → List ℕ → List Passwd → List Group → Host
host ranges name users groups = record {
  name = name;
  ranges = ranges;
  users = users;
  groups = groups;
  spared_users = [];
  spared_groups = [];
}

-- Kim and wine are listed. All numbers of root lie in listed ranges. Ann and staff are not kept.
abbrev pub hosts : HostRanges → List Host
hosts ranges =
    host ranges (codes "web")
    (user (codes "kim") 1001 ∷ user (codes "ann") 1002 ∷ user (codes "root") 0 ∷ [])
    (group (codes "wine") 105 ∷ group (codes "staff") 50 ∷ group (codes "root") 7 ∷ [])
    ∷ host ranges (codes "mail")
    (user (codes "root") 5 ∷ user (codes "ann") 1003 ∷ user (codes "kim") 1000 ∷ [])
    (group (codes "root") 0 ∷ group (codes "staff") 60 ∷ group (codes "wine") 104 ∷ [])
    ∷ []

-- a number that files of the host with this name have, and no account
abbrev found : List ℕ → ℕ → UnownedNumber
found name number = record { host = name; number = number }

abbrev pub unowned : UnownedNumbers
unowned = record {
  users = found (codes "web") 2009 ∷ found (codes "web") 2003 ∷ found (codes "mail") 2001 ∷ [];
  groups = found (codes "web") 3002 ∷ found (codes "mail") 3009 ∷ found (codes "mail") 3001 ∷ [];
}

-- ---- what is reserved

-- a listed range; the number of an account that is kept on the host with this name; and one that
-- files of that host have
abbrev listed : ℕ → ℕ → Reserved
listed low high = record { numbers = between low high; by = by.Range }

abbrev kept : List ℕ → List ℕ → ℕ → Reserved
kept name account number = record { numbers = between number number; by = by.Name name account }

abbrev of_files : List ℕ → ℕ → Reserved
of_files name number = record { numbers = between number number; by = by.Unowned name }

-- the ranges as their lines stand; host by host the kept rows as they stand; and the unowned
-- numbers as they were found
abbrev pub uids : List Reserved
uids =
    listed 60001 65000 ∷ listed 0 999
    ∷ kept (codes "web") (codes "kim") 1001 ∷ kept (codes "web") (codes "root") 0
    ∷ kept (codes "mail") (codes "root") 5 ∷ kept (codes "mail") (codes "kim") 1000
    ∷ of_files (codes "web") 2009 ∷ of_files (codes "web") 2003 ∷ of_files (codes "mail") 2001 ∷ []

abbrev pub gids : List Reserved
gids =
    listed 90 99 ∷ listed 0 19
    ∷ kept (codes "web") (codes "wine") 105 ∷ kept (codes "web") (codes "root") 7
    ∷ kept (codes "mail") (codes "root") 0 ∷ kept (codes "mail") (codes "wine") 104
    ∷ of_files (codes "web") 3002 ∷ of_files (codes "mail") 3009
    ∷ of_files (codes "mail") 3001 ∷ []

-- The text is read as it says, and this is reserved by it.
pub record ExampleOfReserving (ranges : HostRanges) : Type 0 where
  pub read : keep_of keep_text ≡ Ok keep
  pub users : reserved_users keep (hosts ranges) unowned.users ≡ uids
  pub groups : reserved_groups keep (hosts ranges) unowned.groups ≡ gids

abbrev pub ReservingByExample : Type 0
ReservingByExample = (ranges : HostRanges) → ExampleOfReserving ranges
