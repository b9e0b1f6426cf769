-- A row as the counters tell it.
-- Words of the code and not of the subject: only private contracts, views and invariants cite them.
use Rattle.std.specs.Prelude.{◌≡◌, ℕ, if◌then◌else◌, List}
use Rattle.hosts_join.specs.Accounts.{Accounts}
use Rattle.hosts_join.specs.Rules.{class_at, in_pool}
use Rattle.ownership.specs.Counts.{Tally}
use Rattle.candidates.specs.declared.Candidate.{Candidate}
use Rattle.ownership.specs.Weights.{told_weight}
use Rattle.candidates.specs.Rows.{IsLawfulRow, weight_in}

pub record IsToldRow (a : Accounts) (tallies : List Tally) (i : ℕ) (row : List Candidate) :
    Type 0 where
  pub lawful : IsLawfulRow a i row
  pub weights : (v : ℕ) → weight_in row v
      ≡ (if in_pool a (class_at a i) v then told_weight a tallies i v else 0)
