-- What no name of a site is to be given, as the report tells it.
-- Source: this project's own formats.
use Rattle.std.specs.Prelude.{ℕ, Bool, true, false, ◌||◌, List, [], ◌∷◌, ◌++◌, codes, decimal}
use Rattle.std.specs.Prelude.{flat_map}
use Rattle.std.specs.List.{list_any}
use Rattle.hosts_join.specs.Site.{Joined}
use Rattle.hosts_join.specs.declared.Which.{Which}
use Rattle.hosts_join.specs.declared.Which.TheVariants.{User, Group}
use Rattle.hosts_join.specs.declared.reserving.Reserved.{Reserved}
use Rattle.hosts_join.specs.declared.reserving.Reserver.{Reserver}
use Rattle.hosts_join.specs.declared.reserving.Reserver.TheVariants as by
use Rattle.logindefs.specs.declared.ranges.IdRange.{IdRange}
use Rattle.unify_texts.specs.Words.{line, shown, which_word}

-- Who reserves numbers, in the words of a fault line, and which number it is: a listed range with
-- its ends, a name that is kept on a host with its number there, or a host with a number that its
-- files have and no account does.
abbrev pub reserved_words : IdRange → Reserver → List (List ℕ)
reserved_words numbers by.Range = codes "range" ∷ decimal numbers.low ∷ decimal numbers.high ∷ []
reserved_words numbers (by.Name host name) =
    codes "name" ∷ shown host ∷ shown name ∷ decimal numbers.low ∷ []
reserved_words numbers (by.Unowned host) =
    codes "unowned" ∷ shown host ∷ decimal numbers.low ∷ []

-- `reserved KIND range LOW HIGH`, `reserved KIND name HOST NAME NUMBER`, or
-- `reserved KIND unowned HOST NUMBER`
abbrev pub reserved_line : Which → Reserved → List ℕ
reserved_line kind r = line (codes "reserved") (which_word kind ∷ reserved_words r.numbers r.by)

-- users before groups, each in the order of the list
abbrev pub reserved_lines : Joined → List ℕ
reserved_lines site =
    flat_map (reserved_line User) site.users.reserved
    ++ flat_map (reserved_line Group) site.groups.reserved

-- the numbers are reserved by a name that is kept on a host
abbrev pub is_by_name : Reserver → Bool
is_by_name by.Range = false
is_by_name (by.Name host name) = true
is_by_name (by.Unowned host) = false

-- some user or some group is kept on some host, so that one file cannot name the numbers of all
abbrev pub keeps_a_name : Joined → Bool
keeps_a_name site =
    list_any (λ r. is_by_name r.by) site.users.reserved
    || list_any (λ r. is_by_name r.by) site.groups.reserved
