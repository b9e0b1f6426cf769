-- Differences by example: three hosts, by the texts of their files, on which each field differs
-- somewhere.
-- Sources: passwd(5) and group(5); the texts are this project's own.
use Rattle.std.specs.Prelude.{◌≡◌, ℕ, List, [], ◌∷◌, ◌++◌, map, codes, Result, Ok, Err}
use Rattle.accounts.specs.Tables.{passwd_table, group_table}
use Rattle.idtext.specs.declared.faults.TextFault.{TextFault}
use Rattle.logindefs.specs.declared.ranges.HostRanges.{HostRanges}
use Rattle.hosts_join.specs.Accounts.{Accounts}
use Rattle.hosts_join.specs.Site.{Joined}
use Rattle.hosts_join.specs.declared.Which.{Which}
use Rattle.hosts_join.specs.declared.Which.TheVariants.{User, Group}
use Rattle.hosts_join.specs.declared.host.Host.{Host}
use Rattle.mergedfiles.specs.declared.Difference.{Difference}
use Rattle.mergedfiles.specs.declared.Field.{Field}
use Rattle.mergedfiles.specs.declared.Field.TheVariants as field
use Rattle.mergedfiles.specs.Differences.{site_differences}

-- the rows of a table that was read
abbrev pub rows_of : {Row : Type 0} → Result (List Row) TextFault → List Row
rows_of (Ok rows) = rows
rows_of (Err fault) = []

abbrev pub host : HostRanges → List ℕ → List ℕ → List ℕ → Host
host ranges name passwd group = record {
  name = name;
  ranges = ranges;
  users = rows_of (passwd_table passwd);
  groups = rows_of (group_table group);
  spared_users = [];
  spared_groups = [];
}

abbrev pub first : HostRanges → Host
first ranges =
    host ranges (codes "web")
    (codes "ben:x:8:100:::/bin/sh\n" ++ codes "ann:x:7:100:Ann:/home/ann:/bin/sh\n")
    (codes "staff:x:100:\n")

abbrev pub second : HostRanges → Host
second ranges =
    host ranges (codes "db")
    (codes "ann:*:7:200:Ann:/home/ann:/bin/zsh\n" ++ codes "kim:x:9:200:Kim:/:/bin/sh\n")
    (codes "staff::200:ann\n" ++ codes "adm:x:50:\n")

abbrev pub third : HostRanges → Host
third ranges =
    host ranges (codes "log")
    (codes "ann:x:17:50:Ann Lee:/ann:/bin/ksh\n" ++ codes "ben:x:8:900:::/bin/zsh\n"
    ++ codes "kim:x:9:300:Kim:/srv:/bin/sh\n")
    (codes "staff:x:300:kim\n" ++ codes "adm:!:50:\n")

-- accounts with these names
abbrev pub named : List (List ℕ) → Accounts
named names = record {
  hosts = [];
  names = map (λ name. record { name = name; spots = [] }) names;
  pins = [];
  reserved = [];
}

-- the names of the three hosts, in order of first appearance
abbrev pub site : Joined
site = record {
  users = named (codes "ben" ∷ codes "ann" ∷ codes "kim" ∷ []);
  groups = named (codes "staff" ∷ codes "adm" ∷ []);
  hosts = 3;
}

abbrev pub differs : Which → List ℕ → Field → List ℕ → Difference
differs kind name what host = record { kind = kind; name = name; field = what; host = host }

abbrev pub expected : List Difference
expected =
    differs User (codes "ann") field.Password (codes "db")
    ∷ differs User (codes "ann") field.Comment (codes "log")
    ∷ differs User (codes "ann") field.Home (codes "log")
    ∷ differs User (codes "ann") field.Shell (codes "db")
    ∷ differs User (codes "ann") field.Shell (codes "log")
    ∷ differs User (codes "ann") field.Group (codes "log")
    ∷ differs User (codes "ben") field.Shell (codes "log")
    ∷ differs User (codes "ben") field.Group (codes "log")
    ∷ differs User (codes "kim") field.Home (codes "log")
    ∷ differs Group (codes "adm") field.Password (codes "log")
    ∷ differs Group (codes "staff") field.Password (codes "db") ∷ []

abbrev pub ExampleOfDiffering : Type 0
ExampleOfDiffering = (ranges : HostRanges)
    → site_differences (first ranges ∷ second ranges ∷ third ranges ∷ []) site ≡ expected
