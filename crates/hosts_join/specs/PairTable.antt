-- What a table of pairs stands for.
-- Words of the code and not of the subject: only private contracts, views and invariants cite them.
use Rattle.std.specs.Prelude.{ℕ, List, map}
use Rattle.std.specs.Borrow.{Bor}
use Rattle.hosts_join.specs.Accounts.{Pair}
use Rattle.hosts_join.specs.declared.pairs.PairTable.TheInside.{Inside}

abbrev pub pairs_among : List (Bor (List ℕ) × ℕ) → List Pair
pairs_among es = map (λ (e : Bor (List ℕ) × ℕ). record { name = e.0.now; number = e.1 }) es

abbrev pub pairs_in : Inside → List Pair
pairs_in t = pairs_among t.pairs.entries
