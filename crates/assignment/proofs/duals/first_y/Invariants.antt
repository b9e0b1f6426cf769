use Rattle.std.proofs.Common.{◌≡◌, ℕ, ◌+◌, ◌<◌, ◌≤◌, ◌^◌, get_or, length, unwrap_or}
use Rattle.std.specs.BTreeMap as btree
use Rattle.std.specs.Ordering.{nat_cmp}
use Rattle.assignment.specs.Solutions.{row_weight}
use Rattle.assignment.proofs.duals.first_y.Given as goal

abbrev pub invariant-loop-name : goal.invariant-loop-name
invariant-loop-name l = record {
  long : length l.y.items ≡ l.name;
  covers : (n v : ℕ) → n < l.name → row_weight l.rows n v ≤ get_or l.y.items n 0 + unwrap_or (btree.get nat_cmp l.z v) 0;
  small : (n : ℕ) → get_or l.y.items n 0 < 2 ^ 63;
}
