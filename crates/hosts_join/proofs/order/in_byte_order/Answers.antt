use Rattle.std.proofs.Common.{◌≤◌, ℕ, List, length, map, ◌∙◌, ap, arith}
use Rattle.std.specs.Borrow.{Bor}
use Rattle.std.proofs.lemmas.List.{take_all}
use Rattle.std.proofs.lemmas.List.Sorted.{IsPermutation-map, All-permutation}
use Rattle.hosts_join.specs.Heads.{HasItsHead, Headed, named}
use Rattle.hosts_join.specs.Index.{accounts_in}
use Rattle.hosts_join.proofs.Heads.{named_ascend}
use Rattle.hosts_join.proofs.NameOrder.{ordered}
use Rattle.hosts_join.proofs.order.in_byte_order.Goals as goal

pub returns : goal.returns
returns c =
    let items = c.deref-place-items.result.now in
    let found = c.in_ok-names.names.items in
    let sorted = c.sort_unstable.new.self.items in
    let long : length items ≤ c.loop-place.place-index = omega arith in
    let all = c.loop-place.invariant ∙ ap (λ (ps : List Headed). map (λ (p : Bor (List ℕ) × ℕ). p.1) (map named ps)) (take_all c.loop-place.place-index items long ∙ c.deref-place-items.ensures.value) in
    let heads = All-permutation HasItsHead found sorted c.sort_unstable.ensures.permutation c.in_ok-names.ensures.heads in
    ordered (accounts_in c.args.index.now) (map named found) (map named sorted) c.loop-place.order.items c.in_ok-names.ensures.names
    (IsPermutation-map named found sorted c.sort_unstable.ensures.permutation) (named_ascend sorted heads c.sort_unstable.ensures.sorted) all
