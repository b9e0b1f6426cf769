-- What a contract sees of values that lie in the input.
-- Values that borrow from the input, without the borrow: words of the code and not of the subject.
use Rattle.std.specs.Prelude.{ℕ, List, map, Option}
use Rattle.std.specs.Option.{option_map}
use Rattle.std.specs.Borrow.{Bor}
use Rattle.hosts_join.specs.declared.Row.{Row}
use Rattle.hosts_join.specs.declared.HostEntry.{HostEntry}
use Rattle.hosts_join.specs.declared.Pair.{Pair}
use Rattle.hosts_join.specs.Accounts as spec

abbrev pub row_of : Row → spec.Row
row_of r = record { host = r.host; name = r.name.now; number = r.number; standing = r.standing }

abbrev pub rows_of : List Row → List spec.Row
rows_of rs = map row_of rs

abbrev pub entry_of : HostEntry → spec.HostEntry
entry_of h = record { name = h.name.now; regular = h.regular; system = h.system }

abbrev pub pair_of : Pair → spec.Pair
pair_of p = record { name = p.name.now; number = p.number }

abbrev pub pairs_of : List Pair → List spec.Pair
pairs_of ps = map pair_of ps

abbrev pub text_of : Option (Bor (List ℕ)) → Option (List ℕ)
text_of o = option_map (λ (t : Bor (List ℕ)). t.now) o

-- a name that lies in the input, with its place
abbrev pub placed : Bor (List ℕ) × ℕ → List ℕ × ℕ
placed p = (p.0.now, p.1)
