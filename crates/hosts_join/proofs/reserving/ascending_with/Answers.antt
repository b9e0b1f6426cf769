use Rattle.std.proofs.Common.{◌≡◌, ◌+◌, ◌<◌, ◌≤◌, ◌||◌, [], ◌∷◌, ◌++◌, length, take, ◌∙◌, ap, rules, sym}
use Rattle.std.specs.List.Sorted.{IsSortedBy}
use Rattle.std.specs.Ordering.{nat_cmp, is_lt}
use Rattle.std.proofs.Math.Bool.{or-false}
use Rattle.std.proofs.lemmas.Fn.{always_returns_same}
use Rattle.std.proofs.lemmas.List.{take_all, take_more}
use Rattle.std.proofs.lemmas.List.Sorted.{list_any-IsPermutation, IsNonDecreasingBy-from_sort}
use Rattle.logindefs.specs.declared.ranges.IdRange.{IdRange}
use Rattle.logindefs.specs.Ranges.{in_range}
use Rattle.hosts_join.specs.RangeLists.{lies_in_some}
use Rattle.hosts_join.specs.Rules.{is_reserved}
use Rattle.hosts_join.specs.declared.reserving.Reserved.{Reserved}
use Rattle.hosts_join.proofs.ReservedLemmas.{with-reserved}
use Rattle.hosts_join.proofs.reserving.ascending_with.Goals as goal

pub loop-one-init : goal.loop-one-init
loop-one-init c = λ v. sym (or-false _)

pub loop-one-preserved : goal.loop-one-preserved
loop-one-preserved c = λ v.
    let rs = c.args.reserved.now in
    let k = c.loop-one.one-index in
    let r : Reserved = c.one-item.result in
    let here : k < length rs = c.loop-one-test.true in
    let more : take (k + 1) rs ≡ take k rs ++ r ∷ [] = take_more rs k r here ∙ ap (λ (x : Reserved). take k rs ++ x ∷ []) (sym c.one-item.is) in
    ap (λ xs. lies_in_some xs v) c.in_ok-push.ensures.items ∙ with-reserved c.loop-one.ranges.items (lies_in_some c.args.ranges.items v) (take k rs) r v (c.loop-one.invariant v) ∙ ap (λ xs. lies_in_some c.args.ranges.items v || is_reserved xs v) (sym more)

pub returns-clause-numbers : goal.returns-clause-numbers
returns-clause-numbers c = λ v.
    let rs = c.args.reserved.now in
    let all : length rs ≤ c.loop-one.one-index = c.loop-one-test.false in
    sym (list_any-IsPermutation (λ (r : IdRange). in_range r v) c.loop-one.ranges.items c.sort_unstable_by_key.new.self.items c.sort_unstable_by_key.ensures.permutation)
    ∙ c.loop-one.invariant v ∙ ap (λ xs. lies_in_some c.args.ranges.items v || is_reserved xs v) (take_all c.loop-one.one-index rs all)

pub returns-clause-ascending : goal.returns-clause-ascending
returns-clause-ascending c =
    let sorted : IsSortedBy (λ (p q : IdRange). is_lt (nat_cmp p.low q.low)) c.sort_unstable_by_key.new.self.items =
    c.sort_unstable_by_key.ensures.sorted (λ (p : IdRange). p.low) (always_returns_same _ (λ a r. r ≡ a.0.now.low) _ (λ a r f k. search rules)) in
    λ i j d h l. IsNonDecreasingBy-from_sort (λ (p : IdRange). p.low) c.sort_unstable_by_key.new.self.items sorted i j d h l
