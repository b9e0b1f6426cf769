-- What a plan says, without where its text lies in memory.
-- Source: this project's own format.
use Rattle.std.specs.Prelude.{◌≢◌, ℕ, List, AllPairs}
use Rattle.reown_plan.specs.declared.plan.Owner.{Owner}

-- one record of a plan
pub record PlanRecord : Type 0 where
  pub before : Owner
  pub after : Owner
  pub path : List ℕ

-- a plan: its host's name, and its records in order
pub record PlanData : Type 0 where
  pub host : List ℕ
  pub records : List PlanRecord

-- no path stands twice
abbrev pub HaveDistinctPaths : List PlanRecord → Type 0
HaveDistinctPaths records = AllPairs (λ a b. a.path ≢ b.path) records
