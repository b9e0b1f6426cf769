use Rattle.std.proofs.Common.{◌≡◌, ◌<◌, ◌++◌, ℕ, List, length, map, get_or, ◌∙◌, ap, arith}
use Rattle.std.proofs.lemmas.List.{take_all}
use Rattle.std.specs.List.{flat_map}
use Rattle.hosts_join.specs.Accounts.{Accounts}
use Rattle.hosts_join.specs.Order.{name_at}
use Rattle.hosts_join.specs.Rules.{account}
use Rattle.mergedfiles.specs.Rows.{groups_named}
use Rattle.mergedfiles.specs.Differences.{group_differences}
use Rattle.mergedfiles.proofs.Joining.{group-differences-are}
use Rattle.mergedfiles.proofs.Orders.{in-byte-order}
use Rattle.mergedfiles.proofs.Steps.{told_more}
use Rattle.mergedfiles.proofs.differing.push_all_groups.Goals as goal

pub loop-index-preserved : goal.loop-index-preserved
loop-index-preserved c =
    let a = c.args.site.now.groups in
    let items = c.in_byte_order-index-items.result.now in
    let k = c.loop-index.index-index in
    let i : ℕ = get_or items k 0 in
    let within : i < length a.names = rw c.groups-groups.ensures at c.in_byte_order-index-items.ensures.within k 0 c.loop-index-test.true in
    let named : c.name.result.now ≡ (account a i).name = c.name.ensures ∙ ap (λ (b : Accounts). (account b i).name) c.groups-groups.ensures in
    let spots = c.spots.ensures ∙ ap (λ (b : Accounts). (account b i).spots) c.groups-groups.ensures in
    let f = λ (name : List ℕ). group_differences name (groups_named name c.args.hosts.now) in
    told_more f (name_at a.names) c.args.told.now.items items k 0 c.loop-index.told.items _ _ c.loop-index-test.true c.loop-index.invariant c.in_ok-push_group_differences.ensures
    (group-differences-are c.args.hosts.now c.args.site.now c.requires.joined c.requires.lawful i within c.name.result.now c.spots.result.now named spots ∙ ap f named)

pub returns : goal.returns
returns c =
    let a = c.args.site.now.groups in
    let items = c.in_byte_order-index-items.result.now in
    let all = take_all c.loop-index.index-index items (omega arith) in
    let order : map (name_at a.names) items ≡ _ = in-byte-order a items (rw c.groups-groups.ensures at c.in_byte_order-index-items.ensures.lawful) (rw c.groups-groups.ensures at c.in_byte_order-index-items.ensures.ordered) in
    c.loop-index.invariant ∙ ap (λ ns. c.args.told.now.items ++ flat_map (λ name. group_differences name (groups_named name c.args.hosts.now)) ns) (ap (map (name_at a.names)) all ∙ order)
