use Rattle.std.proofs.Common.{◌++◌, map, flat_map, sym, ap, ◌∙◌, append-nil, arith}
use Rattle.std.proofs.lemmas.List.{take_all}
use Rattle.hosts_join.specs.Order.{name_at}
use Rattle.mergedfiles.proofs.Orders.{in-byte-order}
use Rattle.unify_texts.specs.WrittenMap.{map_line, pair_for}
use Rattle.unify_texts.proofs.MapLines.{map_more}
use Rattle.unify_texts.proofs.map_text.push_numbers.Goals as goal

pub loop-index-init : goal.loop-index-init
loop-index-init c = sym (append-nil c.args.out.now.items)

pub loop-index-preserved : goal.loop-index-preserved
loop-index-preserved c =
    let a = c.args.names.now in
    let k = c.loop-index.index-index in
    let items = c.in_byte_order-index-items.result.now in
    let within = c.in_byte_order-index-items.ensures.within k 0 c.loop-index-test.true in
    let line = rw (c.kind_word.ensures, c.from.ensures, c.number.ensures, c.name.ensures) at c.in_ok-push_line.ensures in
    map_more a c.args.mapping.now c.args.kind c.args.out.now.items c.loop-index.out.items c.push_line.new.out.items items k c.requires.lawful c.loop-index-test.true within c.loop-index.invariant line

pub returns : goal.returns
returns c =
    let a = c.args.names.now in
    let all = take_all c.loop-index.index-index c.in_byte_order-index-items.result.now (omega arith) in
    let order = in-byte-order a c.in_byte_order-index-items.result.now c.requires.lawful c.in_byte_order-index-items.ensures.ordered in
    c.loop-index.invariant ∙ ap (λ ns. c.args.out.now.items ++ flat_map (map_line c.args.kind) (map (pair_for a c.args.mapping.now) ns)) (ap (map (name_at a.names)) all ∙ order)
