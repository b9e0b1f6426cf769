use Rattle.std.proofs.Common.{◌≡◌, ◌≤◌, ◌&&◌, nat_lt}
use Rattle.hosts_join.specs.Accounts.{lines}
use Rattle.hosts_join.specs.Count.{count_below}
use Rattle.hosts_join.specs.Rules.{account, class_at, is_free_class}
use Rattle.ownership.specs.Mappings.{number_at}
use Rattle.unify_texts.proofs.figures.kept_names.Given as goal

abbrev pub invariant-loop-index : goal.invariant-loop-index
invariant-loop-index l = record {
  count : l.kept ≡ count_below (λ i. is_free_class (class_at l.names i) && nat_lt 0 (lines (account l.names i) (number_at l.mapping i))) l.index;
  few : l.kept ≤ l.index;
}
