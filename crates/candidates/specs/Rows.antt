-- Rows: the candidates of each name, with their weights.
-- Source: the assignment problem (a matrix of weights); which numbers are candidates is this
-- project's own rule.
use Rattle.std.specs.Prelude.{◌≡◌, ℕ, ◌<◌, ◌≤◌, ◌^◌, ◌==◌, if◌then◌else◌, true, List, [], ◌∷◌}
use Rattle.std.specs.Prelude.{length, slice_index_or}
use Rattle.std.specs.List.{All}
use Rattle.hosts_join.specs.Accounts.{Accounts}
use Rattle.hosts_join.specs.Lawful.{AreLawfulAccounts}
use Rattle.hosts_join.specs.Rules.{class_at, in_pool, is_free_class}
use Rattle.ownership.specs.Files.{File}
use Rattle.ownership.specs.Weights.{weight}
use Rattle.candidates.specs.declared.Candidate.{Candidate}

-- a candidate: a free name, and a number of its pool that weighs at least 1 for it
pub record IsCandidate (a : Accounts) (files : List File) (i v : ℕ) : Type 0 where
  pub free : is_free_class (class_at a i) ≡ true
  pub pool : in_pool a (class_at a i) v ≡ true
  pub some : 1 ≤ weight a files i v

-- the numbers ascend: each is below all later ones
abbrev pub IsAscending : List Candidate → Type 0
IsAscending [] = Unit {0}
IsAscending (c ∷ row) = All (λ d. c.number < d.number) row × IsAscending row

-- a weight is at least 1, and a sum of two of them fits 64 bits
abbrev pub IsWeighed : Candidate → Type 0
IsWeighed c = (1 ≤ c.weight) × (c.weight < 2 ^ 63)

-- the weight that a row gives to a number, or 0
abbrev pub weight_in : List Candidate → ℕ → ℕ
weight_in [] v = 0
weight_in (c ∷ row) v = if c.number == v then c.weight else weight_in row v

-- The row of the name at an index: ascending, nothing of weight 0, and each number of the pool has
-- its weight there, where a number that does not stand in the row has 0. So the row has exactly the
-- candidates. (A pinned name has the empty pool.)
pub record IsRow (a : Accounts) (files : List File) (i : ℕ) (row : List Candidate) : Type 0 where
  pub ascending : IsAscending row
  pub weighed : All IsWeighed row
  pub weights : (v : ℕ) → weight_in row v
      ≡ (if in_pool a (class_at a i) v then weight a files i v else 0)

-- the rows of all names, and the accounts that they are of
pub record Choices : Type 0 where
  pub accounts : Accounts
  pub rows : List (List Candidate)

-- the row of the name at an index
abbrev pub row_at : List (List Candidate) → ℕ → List Candidate
row_at rows i = slice_index_or rows i []

-- each name has its row for the files
abbrev pub AreRowsOf : Choices → List File → Type 0
AreRowsOf c files =
    (i : ℕ) → i < length c.accounts.names → IsRow c.accounts files i (row_at c.rows i)

-- what a row is, whatever the files are
pub record IsLawfulRow (a : Accounts) (i : ℕ) (row : List Candidate) : Type 0 where
  pub ascending : IsAscending row
  pub weighed : All IsWeighed row
  pub pooled : All (λ c. in_pool a (class_at a i) c.number ≡ true) row

-- a row for each name of accounts that were joined
pub record AreRows (c : Choices) : Type 0 where
  pub lawful : AreLawfulAccounts c.accounts
  pub len : length c.rows ≡ length c.accounts.names
  pub each : (i : ℕ) → i < length c.rows → IsLawfulRow c.accounts i (row_at c.rows i)
