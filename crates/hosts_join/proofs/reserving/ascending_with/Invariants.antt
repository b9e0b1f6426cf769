use Rattle.std.proofs.Common.{◌≡◌, ℕ, ◌||◌, take}
use Rattle.hosts_join.specs.RangeLists.{lies_in_some}
use Rattle.hosts_join.specs.Rules.{is_reserved}
use Rattle.hosts_join.proofs.reserving.ascending_with.Given as goal

abbrev pub invariant-loop-one : goal.invariant-loop-one
invariant-loop-one l = (v : ℕ) → lies_in_some l.ranges.items v ≡ (lies_in_some l.fn.ranges.items v || is_reserved (take l.one-index l.reserved) v)
