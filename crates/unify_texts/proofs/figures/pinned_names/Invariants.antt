use Rattle.std.proofs.Common.{◌≡◌, ◌≤◌, not}
use Rattle.hosts_join.specs.Count.{count_below}
use Rattle.hosts_join.specs.Rules.{class_at, is_free_class}
use Rattle.unify_texts.proofs.figures.pinned_names.Given as goal

abbrev pub invariant-loop-index : goal.invariant-loop-index
invariant-loop-index l = record {
  count : l.pinned ≡ count_below (λ i. not (is_free_class (class_at l.names i))) l.index;
  few : l.pinned ≤ l.index;
}
