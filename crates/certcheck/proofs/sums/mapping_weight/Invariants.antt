use Rattle.std.proofs.Common.{◌≡◌, ◌≤◌, ◌*◌, ◌^◌, cond}
use Rattle.ownership.specs.Mappings.{number_at}
use Rattle.hosts_join.specs.Rules.{class_at, is_free_class}
use Rattle.ownership.specs.Sums.{sum_below}
use Rattle.ownership.specs.Weights.{told_weight}
use Rattle.certcheck.specs.Check.{mapping_of}
use Rattle.certcheck.specs.Views.{rows_of}
use Rattle.certcheck.proofs.sums.mapping_weight.Given as goal

abbrev pub invariant-loop-index : goal.invariant-loop-index
invariant-loop-index l = record {
  sum : l.total ≡ sum_below (λ n. cond (is_free_class (class_at l.names n)) (told_weight l.names l.counts n (number_at (mapping_of l.names (rows_of l.rows)) n)) 0) l.index;
  small : l.total ≤ l.index * 2 ^ 88;
}
