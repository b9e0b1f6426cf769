-- A world of hosts.
-- Source: this project's own rule.
use Rattle.std.specs.Prelude.{◌≡◌, ℕ, List, Some, slice_get}
use Rattle.reown_runner.specs.RunnerData.{RunnerData}

-- for each host, in order, its runner and its tree
pub record World (T : Type 0) : Type 0 where
  pub runners : List RunnerData
  pub trees : List T

-- a host of a world: its runner, and its tree
pub record Hosted (T : Type 0) : Type 0 where
  pub runner : RunnerData
  pub tree : T

-- it is the host of this number
pub record IsHostOf {T : Type 0} (world : World T) (host : ℕ) (hosted : Hosted T) : Type 0 where
  pub runner : slice_get world.runners host ≡ Some hosted.runner
  pub tree : slice_get world.trees host ≡ Some hosted.tree
