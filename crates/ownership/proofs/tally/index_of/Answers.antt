use Rattle.std.proofs.Common.{ltb, rules, ap, ◌∙◌, arith}
use Rattle.std.proofs.lemmas.List.{get_or_default}
use Rattle.std.proofs.lemmas.List.Sorted.{IsPartitionPoint-from_clause, IsPartitionedBy-ltb}
use Rattle.ownership.specs.declared.tally.Cell.{Cell}
use Rattle.ownership.proofs.CellLemmas.{found-at, found-none, in-order, zero_cell}
use Rattle.ownership.proofs.tally.index_of.Goals as goal
use Rattle.ownership.proofs.tally.index_of.Goals.{else-index-cells-via-then-index-cells+else-number-cells, else-index-cells-via-else-index-cells}

pub returns-then-number-cells : goal.returns-then-number-cells
returns-then-number-cells c =
    let cells = c.args.cells.now in
    let begin = IsPartitionPoint-from_clause (λ (x : Cell). ltb x.number c.args.number) cells c.partition_point-index.result c.partition_point-index.ensures.partitioned
    (IsPartitionedBy-ltb (λ (x : Cell). x.number) cells c.args.number (in-order cells c.requires)) (λ a r q k. search rules) in
    found-at cells c.args.number c.partition_point-index.result (zero_cell 0) begin c.if-index-cells.true c.if-number-cells.true

pub returns-else-index-cells : goal.returns-else-index-cells
returns-else-index-cells c =
    let cells = c.args.cells.now in
    let begin = IsPartitionPoint-from_clause (λ (x : Cell). ltb x.number c.args.number) cells c.partition_point-index.result c.partition_point-index.ensures.partitioned
    (IsPartitionedBy-ltb (λ (x : Cell). x.number) cells c.args.number (in-order cells c.requires)) (λ a r q k. search rules) in
    found-none cells c.args.number c.partition_point-index.result c.requires begin (λ d h e. elim c.else-index-cells.branch [
      | else-index-cells-via-then-index-cells+else-number-cells w ↦ w.if-number-cells.false (e ∙ ap (λ (x : Cell). x.number) (get_or_default cells c.partition_point-index.result d (zero_cell 0) h))
      | else-index-cells-via-else-index-cells w ↦ omega (arith, h, w.if-index-cells.false)
    ])
