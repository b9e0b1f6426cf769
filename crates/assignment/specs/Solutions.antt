-- What a solver answers: a mapping, with potentials that certify it in the rows.
-- Source: the assignment problem, with its weak duality (Kuhn 1955, Munkres 1957).
use Rattle.std.specs.Prelude.{◌≡◌, ℕ, ◌+◌, ◌<◌, ◌≤◌, ◌^◌, true, List, length}
use Rattle.std.specs.List.{All}
use Rattle.hosts_join.specs.Rules.{class_at, is_free_class}
use Rattle.ownership.specs.Mappings.{number_at, IsAdmissible}
use Rattle.ownership.specs.Potentials.{potential_at, value_at, potential_sum, AscendsByNumber, IsZ}
use Rattle.ownership.specs.Sums.{sum_below}
use Rattle.candidates.specs.Rows.{Choices, row_at, weight_in}

-- the weight that the rows give to a name and a number, or 0
abbrev pub row_weight : Choices → ℕ → ℕ → ℕ
row_weight c i v = weight_in (row_at c.rows i) v

-- what the numbers of all names weigh together
abbrev pub total_weight : Choices → List ℕ → ℕ
total_weight c m = sum_below (λ i. row_weight c i (number_at m i)) (length c.rows)

-- y and z cover every name with every number
abbrev pub Cover : Choices → List ℕ → List (ℕ × ℕ) → Type 0
Cover c y z = (i v : ℕ) → i < length c.rows → row_weight c i v ≤ potential_at y i + value_at z v

-- The potentials certify the mapping in the rows: they cover, and all of them together are what the
-- mapping weighs.
pub record Proves (c : Choices) (m y : List ℕ) (z : List (ℕ × ℕ)) : Type 0 where
  pub len : length y ≡ length c.rows
  pub fits : All (λ x. x < 2 ^ 64) y
  pub ascending : AscendsByNumber z
  pub raised : All IsZ z
  pub cover : Cover c y z
  pub equal : potential_sum y z ≡ total_weight c m

-- a free name whose number weighs nothing in its row
pub record IsFreshIn (c : Choices) (m : List ℕ) (i : ℕ) : Type 0 where
  pub free : is_free_class (class_at c.accounts i) ≡ true
  pub weightless : row_weight c i (number_at m i) ≡ 0

-- no admissible mapping weighs more in the rows
abbrev pub IsGreatest : Choices → List ℕ → Type 0
IsGreatest c m =
    (other : List ℕ) → IsAdmissible c.accounts other → total_weight c other ≤ total_weight c m

-- Weak duality: potentials that cover, and that together are what a mapping weighs, prove that no
-- admissible mapping weighs more.
abbrev pub WeakDuality : Type 0
WeakDuality =
    (c : Choices) (m y : List ℕ) (z : List (ℕ × ℕ)) → length c.rows ≡ length c.accounts.names
    → length y ≡ length c.rows → Cover c y z → potential_sum y z ≡ total_weight c m → IsGreatest c m
