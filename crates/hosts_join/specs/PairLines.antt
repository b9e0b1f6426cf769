-- The lines of a map text and of a pins text.
-- Source: this project's own formats.
use Rattle.std.specs.Prelude.{ℕ, List, [], ◌∷◌, Option, Some, None, if◌then◌else◌, drop, codes}
use Rattle.idtext.specs.Names.{is_lawful_name, is_skipped}
use Rattle.idtext.specs.Numbers.{id_of}
use Rattle.idtext.specs.Pieces.{begins_with}
use Rattle.idtext.specs.Spaces.{cut_at_last_space}
use Rattle.hosts_join.specs.Accounts.{Pair}
use Rattle.hosts_join.specs.declared.Which.{Which}
use Rattle.hosts_join.specs.declared.Which.TheVariants.{User, Group}
use Rattle.hosts_join.specs.declared.pair_lines.PairLine.{PairLine}
use Rattle.hosts_join.specs.declared.pair_lines.PairLine.TheVariants.{Skipped, Wrong, Given}

abbrev pub named : Which → List ℕ → Option ℕ → PairLine
named which name None = Wrong
named which name (Some n) = if is_lawful_name name then Given which name n else Wrong

-- a name and a number, with the last space between
abbrev pub cut_pair : Which → Option (List ℕ × List ℕ) → PairLine
cut_pair which None = Wrong
cut_pair which (Some parts) = named which parts.0 (id_of parts.1)

-- what a line says: `user NAME NUMBER` or `group NAME NUMBER`, with one space after the first
-- word; the name may hold spaces
unfoldable pub pair_line_of : List ℕ → PairLine
pair_line_of line =
    if is_skipped line then Skipped
    else if begins_with (codes "user ") line then cut_pair User (cut_at_last_space (drop 5 line))
    else if begins_with (codes "group ") line then cut_pair Group (cut_at_last_space (drop 6 line))
    else Wrong

-- the pair that a line gives, if it gives one of the kind
abbrev pub user_pair : PairLine → List Pair
user_pair (Given User name n) = record { name = name; number = n } ∷ []
user_pair (Given Group name n) = []
user_pair Skipped = []
user_pair Wrong = []

abbrev pub group_pair : PairLine → List Pair
group_pair (Given Group name n) = record { name = name; number = n } ∷ []
group_pair (Given User name n) = []
group_pair Skipped = []
group_pair Wrong = []
