use Rattle.std.proofs.Common.{◌≡◌, ◌-◌, ℕ, ◌<◌, ◌≤◌, length, get_or}
use Rattle.std.specs.Cmp.Lexicographic.{slice_cmp}
use Rattle.std.specs.Ordering.{nat_cmp}
use Rattle.std.specs.declared.cmp.Ordering.TheVariants.{Less, Greater}
use Rattle.reown_plan.specs.Places.{path_at}
use Rattle.reown_runner.proofs.paths.place_of.Given as goal

abbrev pub invariant-loop-low : goal.invariant-loop-low
invariant-loop-low l = record {
  ordered : l.low ≤ l.high;
  within : l.high ≤ length l.places;
  before : (k : ℕ) → k < l.low → slice_cmp nat_cmp (path_at l.paths (get_or l.places k 0)) l.path ≡ Less;
  after : (k : ℕ) → l.high ≤ k → k < length l.places → slice_cmp nat_cmp (path_at l.paths (get_or l.places k 0)) l.path ≡ Greater;
}

abbrev pub decreases-loop-low : goal.decreases-loop-low
decreases-loop-low l = l.high - l.low
