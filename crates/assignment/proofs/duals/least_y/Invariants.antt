use Rattle.std.proofs.Common.{ℕ, ◌+◌, ◌<◌, ◌≤◌, ◌^◌, get_or, unwrap_or}
use Rattle.std.specs.BTreeMap as btree
use Rattle.std.specs.Ordering.{nat_cmp}
use Rattle.candidates.specs.declared.Candidate.{Candidate}
use Rattle.assignment.proofs.duals.least_y.Given as goal

abbrev pub invariant-loop-candidate : goal.invariant-loop-candidate
invariant-loop-candidate l = record { small : l.least < 2 ^ 63; each : (k : ℕ) (d : Candidate) → k < l.candidate-index → (get_or l.row k d).weight ≤ l.least + unwrap_or (btree.get nat_cmp l.z (get_or l.row k d).number) 0 }
