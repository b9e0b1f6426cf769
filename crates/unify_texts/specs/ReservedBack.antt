-- The lines of what is reserved, read word by word.
-- Source: this project's own formats.
use Rattle.std.specs.Prelude.{◌≡◌, ℕ, ◌<◌, ◌≤◌, List, [], ◌∷◌, ◌++◌, map, codes, All}
use Rattle.std.specs.Prelude.{Option, Some, None, option_map, if◌then◌else◌, bytes_eq, length}
use Rattle.idtext.specs.Escapes.{unescaped}
use Rattle.idtext.specs.Numbers.{greatest_id, id_of}
use Rattle.idtext.specs.Pieces.{lines as lines_of}
use Rattle.idtext.specs.Words.{words}
use Rattle.hosts_join.specs.Site.{Joined}
use Rattle.hosts_join.specs.declared.Which.{Which}
use Rattle.hosts_join.specs.declared.Which.TheVariants.{User, Group}
use Rattle.hosts_join.specs.declared.reserving.Reserved.{Reserved}
use Rattle.hosts_join.specs.declared.reserving.Reserver.{Reserver}
use Rattle.hosts_join.specs.declared.reserving.Reserver.TheVariants as by
use Rattle.logindefs.specs.declared.ranges.IdRange.{IdRange}
use Rattle.unify_texts.specs.ReservedLines.{reserved_lines}

-- what is reserved, with its kind
pub record Told : Type 0 where
  pub kind : Which
  pub reserved : Reserved

-- ---- reading

-- one number that is reserved by somebody
abbrev pub one_number : Reserver → ℕ → Reserved
one_number by number = record { numbers = record { low = number; high = number }; by = by }

-- a range with its two ends
abbrev pub range_between : Option ℕ → Option ℕ → Option Reserved
range_between None high = None
range_between (Some low) None = None
range_between (Some low) (Some high) =
    Some (record { numbers = record { low = low; high = high }; by = by.Range })

-- `range LOW HIGH` or `unowned HOST NUMBER`
abbrev pub three_words : List ℕ → List ℕ → List ℕ → Option Reserved
three_words who a b =
    if bytes_eq who (codes "range") then range_between (id_of a) (id_of b)
    else if bytes_eq who (codes "unowned")
    then option_map (one_number (by.Unowned (unescaped a))) (id_of b)
    else None

-- `name HOST NAME NUMBER`
abbrev pub four_words : List ℕ → List ℕ → List ℕ → List ℕ → Option Reserved
four_words who a b c =
    if bytes_eq who (codes "name")
    then option_map (one_number (by.Name (unescaped a) (unescaped b))) (id_of c)
    else None

abbrev pub reserved_said : List (List ℕ) → Option Reserved
reserved_said (who ∷ a ∷ b ∷ []) = three_words who a b
reserved_said (who ∷ a ∷ b ∷ c ∷ []) = four_words who a b c
reserved_said other = None

abbrev pub of_kind : Which → List (List ℕ) → Option Told
of_kind kind others = option_map (λ r. record { kind = kind; reserved = r }) (reserved_said others)

-- the words of a line: `reserved`, then a kind, and then the others
abbrev pub told_by : List (List ℕ) → Option Told
told_by (first ∷ kind ∷ others) =
    if bytes_eq first (codes "reserved")
    then (if bytes_eq kind (codes "user") then of_kind User others
    else if bytes_eq kind (codes "group") then of_kind Group others
    else None)
    else None
told_by other = None

-- ---- the law

-- an escaped text that is not a hyphen for nothing
pub record IsShown (name : List ℕ) : Type 0 where
  pub some : 0 < length name
  pub bytes : All (λ b. b < 256) name

-- what a line has of who reserves: all but a range reserve one number, and names are not empty
abbrev pub IsToldBy : IdRange → Reserver → Type 0
IsToldBy numbers by.Range = numbers.high ≤ greatest_id
IsToldBy numbers (by.Name host name) =
    (numbers.high ≡ numbers.low) × IsShown host × IsShown name
IsToldBy numbers (by.Unowned host) = (numbers.high ≡ numbers.low) × IsShown host

-- what the accounts of hosts have reserved: numbers that an account may have
pub record IsTellable (r : Reserved) : Type 0 where
  pub low : r.numbers.low ≤ greatest_id
  pub by : IsToldBy r.numbers r.by

-- what is reserved of a site, users before groups
abbrev pub all_reserved : Joined → List Told
all_reserved site =
    map (λ r. record { kind = User; reserved = r }) site.users.reserved
    ++ map (λ r. record { kind = Group; reserved = r }) site.groups.reserved

-- each line is read as what it was written for: its kind, its numbers, and who reserves them
abbrev pub ReservedLinesReadBack : Type 0
ReservedLinesReadBack =
    (site : Joined) → All IsTellable site.users.reserved → All IsTellable site.groups.reserved
    → map (λ text. told_by (words text)) (lines_of (reserved_lines site))
    ≡ map (λ told. Some told) (all_reserved site)
