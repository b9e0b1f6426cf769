use Rattle.std.proofs.Common.{◌≡◌, ◌≤◌, ◌*◌, ◌-◌}
use Rattle.ownership.specs.Mappings.{number_at}
use Rattle.ownership.specs.Sums.{sum_below}
use Rattle.ownership.specs.Counts.{told_kept, told_total}
use Rattle.certcheck.specs.Check.{mapping_of}
use Rattle.certcheck.specs.Views.{rows_of}
use Rattle.certcheck.proofs.sums.moved_files.Given as goal

abbrev pub invariant-loop-index : goal.invariant-loop-index
invariant-loop-index l = record {
  sum : l.total ≡ sum_below (λ n. told_total l.counts n - told_kept l.counts n (number_at (mapping_of l.names (rows_of l.rows)) n)) l.index;
  small : l.total ≤ l.index * 2147483648;
}
