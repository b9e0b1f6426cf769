-- What stays as it is, as names and counters tell it.
-- Words of the code and not of the subject: only private contracts, views and invariants cite them.
use Rattle.std.specs.Prelude.{ℕ, List, length}
use Rattle.hosts_join.specs.Accounts.{Accounts, lines}
use Rattle.hosts_join.specs.Rules.{account}
use Rattle.ownership.specs.Counts.{Tally, told_kept}
use Rattle.ownership.specs.Mappings.{number_at}
use Rattle.ownership.specs.Sums.{sum_below}

-- how many files keep their number
abbrev pub told_files : List Tally → List ℕ → ℕ → ℕ
told_files tallies m names = sum_below (λ i. told_kept tallies i (number_at m i)) names

-- how many account rows keep their number
abbrev pub told_rows : Accounts → List ℕ → ℕ
told_rows a m = sum_below (λ i. lines (account a i) (number_at m i)) (length a.names)
