use Rattle.std.proofs.Common.{ℕ, List, ap, ◌∙◌, arith, get_or, map}
use Rattle.std.proofs.lemmas.List.{take_all}
use Rattle.certcheck.specs.Made.{row_at}
use Rattle.certcheck.specs.Certificate.{Row}
use Rattle.certcheck.proofs.MadeSide.{rows_more}
use Rattle.certcheck.proofs.making.rows_in_order.Goals as goal

pub loop-index-preserved : goal.loop-index-preserved
loop-index-preserved c =
    let i = get_or c.in_byte_order-order.result.now c.loop-index.index-index 0 in
    let named : List ℕ → Row = λ n. record { name = n; number = get_or c.args.mapping.now i 0; y = get_or c.args.y.now i 0 } in
    rows_more c.args.names.now c.args.mapping.now c.args.y.now c.in_byte_order-order.result.now c.loop-index.index-index c.loop-index.rows.items c.push.new.self.items _ c.loop-index-test.true c.loop-index.invariant c.in_ok-push.ensures.items (ap named c.name.ensures)

pub returns-clause-rows : goal.returns-clause-rows
returns-clause-rows c =
    let a = c.args.names.now in
    let all = take_all c.loop-index.index-index c.in_byte_order-order.result.now (omega arith) in
    record {
      order = c.in_byte_order-order.result.now;
      ordered = c.in_byte_order-order.ensures.ordered;
      are = c.loop-index.invariant ∙ ap (map (row_at a c.args.mapping.now c.args.y.now)) all;
    }
