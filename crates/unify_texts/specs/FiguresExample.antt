-- The figures of a kind by example.
-- Source: this project's own formats.
use Rattle.std.specs.Prelude.{◌≡◌, ℕ, List, [], ◌∷◌, codes}
use Rattle.hosts_join.specs.Accounts.{Account, Accounts}
use Rattle.hosts_join.specs.declared.Spot.{Spot}
use Rattle.hosts_join.specs.declared.Standing.TheVariants as on
use Rattle.ownership.specs.Files.{File}
use Rattle.unify_texts.specs.Figures.{figures_of}

-- a regular number on a host
abbrev pub regular : ℕ → ℕ → Spot
regular host number = record { host = host; number = number; standing = on.Regular }

-- ann is pinned by her number on the first host
abbrev pub ann : Account
ann = record {
  name = codes "ann";
  spots = record { host = 0; number = 5; standing = on.Pinning } ∷ [];
}

-- a name that is on the second host alone
abbrev pub on_second : List ℕ → ℕ → Account
on_second name number = record { name = name; spots = regular 1 number ∷ [] }

abbrev pub accounts : Accounts
accounts = record {
  hosts = [];
  names =
      ann
      ∷ record { name = codes "bob"; spots = regular 0 1001 ∷ regular 1 1002 ∷ [] }
      ∷ record { name = codes "eve"; spots = regular 0 1003 ∷ regular 1 1003 ∷ [] }
      ∷ on_second (codes "kim") 1004 ∷ on_second (codes "lea") 1005
      ∷ on_second (codes "zoe") 1006 ∷ [];
  pins = [];
  reserved = [];
}

-- bob gets the number that he has on the second host, eve keeps hers, and three are fresh
abbrev pub mapping : List ℕ
mapping = 5 ∷ 1002 ∷ 1003 ∷ 2001 ∷ 2002 ∷ 2003 ∷ []

abbrev pub file : ℕ → ℕ → File
file host number = record { host = host; number = number }

-- two of bob's on the first host and three of kim's change, one of ann's and one of bob's on the
-- second host stay, and one is nobody's
abbrev pub files : List File
files =
    file 0 1001 ∷ file 0 1001 ∷ file 1 1004 ∷ file 1 1004 ∷ file 1 1004
    ∷ file 0 5 ∷ file 1 1002 ∷ file 0 77 ∷ []

abbrev pub ExampleOfFigures : Type 0
ExampleOfFigures =
    figures_of accounts files mapping
    ≡ record {
      names = 6;
      pinned = 1;
      kept = 2;
      fresh = 3;
      files = 7;
      changed_files = 5;
      rows = 8;
      changed_rows = 4;
    }
