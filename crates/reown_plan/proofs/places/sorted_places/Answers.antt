use Rattle.std.proofs.Common.{rules, List, ℕ, map, subst, ap, ◌∙◌, sym}
use Rattle.std.specs.List.{range_with_len}
use Rattle.std.specs.List.Sorted.{IsPermutation}
use Rattle.std.proofs.lemmas.Fn.{always_returns_same}
use Rattle.std.proofs.lemmas.List.{length-map}
use Rattle.reown_plan.specs.PlanData.{PlanRecord}
use Rattle.reown_plan.specs.Places.{paths_in}
use Rattle.reown_plan.specs.Records.{record_of}
use Rattle.reown_plan.proofs.Sorting.{is_before, place_order}
use Rattle.reown_plan.proofs.places.sorted_places.Goals as goal

pub returns : goal.returns
returns c =
    let records = c.args.records.now in
    let paths = paths_in (map record_of records) in
    let many = c.in-Ok.ensures.1 ∙ sym (length-map records record_of) ∙ sym (length-map (map record_of records) (λ (r : PlanRecord). r.path)) in
    record {
      all = subst (λ (xs : List ℕ). IsPermutation xs c.sort_unstable_by.new.self.items) (c.in_ok-places.ensures ∙ ap (range_with_len 0) many) c.sort_unstable_by.ensures.permutation;
      ascending = c.sort_unstable_by.ensures.sorted (is_before paths) (place_order paths) (always_returns_same _ _ _ (λ a r f k. search rules));
    }
