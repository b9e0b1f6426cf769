use Rattle.std.proofs.Common.{rules, List, ℕ, subst, ap, ◌∙◌}
use Rattle.std.specs.List.{range_with_len}
use Rattle.std.specs.List.Sorted.{IsPermutation}
use Rattle.std.specs.Ordering.{nat_cmp, is_lt}
use Rattle.std.specs.Cmp.Lexicographic.{slice_cmp}
use Rattle.std.proofs.lemmas.Cmp.{nat_list_cmp_total}
use Rattle.std.proofs.lemmas.Fn.{always_returns_same}
use Rattle.std.proofs.lemmas.List.Sorted.{ranks_by}
use Rattle.reown_plan.specs.Places.{path_at}
use Rattle.reown_runner.proofs.paths.sorted_places.Goals as goal

pub returns : goal.returns
returns c = record {
  all = subst (λ (xs : List ℕ). IsPermutation xs c.sort_by.new.self.items) (c.in_ok-places.ensures ∙ ap (range_with_len 0) c.len.ensures) c.in_ok-sort_by.ensures.permutation;
  ascending = c.in_ok-sort_by.ensures.sorted (λ (x : ℕ) (y : ℕ). is_lt (slice_cmp nat_cmp (path_at c.args.paths.now x) (path_at c.args.paths.now y))) (ranks_by nat_list_cmp_total (path_at c.args.paths.now)) (always_returns_same _ _ _ (λ a r f k. search rules));
}
