-- Names with their numbers, in the order of their lines, as a map text and a pins text have them.
-- Source: this project's own formats.
use Rattle.std.specs.Prelude.{ℕ, List, Option, option_map, find, bytes_eq}
use Rattle.hosts_join.specs.Accounts.{Pair}

-- the number of a name
abbrev pub number_of : List Pair → List ℕ → Option ℕ
number_of pairs n = option_map (λ p. p.number) (find (λ p. bytes_eq n p.name) pairs)
