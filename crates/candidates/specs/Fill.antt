-- What the fill is given.
-- Source: this project's own rule.
use Rattle.std.specs.Prelude.{◌≡◌, ℕ, ◌≤◌, true, List, length, slice_index_or, Option, Some, None}
use Rattle.hosts_join.specs.Accounts.{Accounts}
use Rattle.hosts_join.specs.Rules.{class_at, is_free_class}
use Rattle.candidates.specs.Rows.{Choices, weight_in, row_at}

-- what the name at an index was given, if anything
abbrev pub gift : List (Option ℕ) → ℕ → Option ℕ
gift given i = slice_index_or given i None

-- the name waits for a number: it is free, and was given none
abbrev pub Waits : Accounts → List (Option ℕ) → ℕ → Type 0
Waits a given i = (is_free_class (class_at a i) ≡ true) × (gift given i ≡ None)

-- what may be given: for each name none or one of its candidates, and no number twice
pub record IsPartial (c : Choices) (given : List (Option ℕ)) : Type 0 where
  pub len : length given ≡ length c.rows
  pub candidate : (i v : ℕ) → gift given i ≡ Some v → 1 ≤ weight_in (row_at c.rows i) v
  pub distinct : (i j v : ℕ) → gift given i ≡ Some v → gift given j ≡ Some v → i ≡ j
