use Rattle.std.proofs.Common.{◌≡◌, ◌≤◌, ◌*◌}
use Rattle.hosts_join.specs.Accounts.{lines}
use Rattle.hosts_join.specs.Rules.{account}
use Rattle.ownership.specs.Mappings.{number_at}
use Rattle.ownership.specs.Sums.{sum_below}
use Rattle.unify_texts.proofs.figures.staying_rows.Given as goal

abbrev pub invariant-loop-index : goal.invariant-loop-index
invariant-loop-index l = record {
  sum : l.staying ≡ sum_below (λ i. lines (account l.names i) (number_at l.mapping i)) l.index;
  few : l.staying ≤ 64 * l.index;
}
