use Rattle.std.proofs.Common.{◌≡◌, List, sym, ap, ◌∙◌, rules}
use Rattle.std.proofs.lemmas.Fn.{always_returns_same}
use Rattle.std.proofs.lemmas.List.Sorted.{IsNonDecreasingBy-from_sort, list_any-IsPermutation}
use Rattle.logindefs.specs.declared.ranges.IdRange.{IdRange}
use Rattle.logindefs.specs.Ranges.{in_range}
use Rattle.hosts_join.specs.RangeLists.{lies_in_some}
use Rattle.hosts_join.proofs.runs.sorted_ranges.Goals as goal

pub returns-clause-ascending : goal.returns-clause-ascending
returns-clause-ascending c =
    IsNonDecreasingBy-from_sort (λ (range : IdRange). range.low) c.sort_unstable_by_key.new.self.items
    (c.sort_unstable_by_key.ensures.sorted (λ (range : IdRange). range.low) (always_returns_same _ (λ a r. r ≡ a.0.now.low) _ (λ a r f k. search rules)))

pub returns-clause-same : goal.returns-clause-same
returns-clause-same c = λ number.
    sym (list_any-IsPermutation (λ (range : IdRange). in_range range number) c.in_ok-sorted.sorted.items c.sort_unstable_by_key.new.self.items c.sort_unstable_by_key.ensures.permutation)
    ∙ ap (λ (ranges : List IdRange). lies_in_some ranges number) c.in_ok-sorted.ensures.items
