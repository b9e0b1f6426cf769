use Rattle.std.proofs.Common.{arith}
use Rattle.std.proofs.lemmas.Grind.{common_steps}
use Rattle.ownership.specs.Mappings.{number_at}
use Rattle.unify_texts.proofs.Totals.{sum_more, lines_within}
use Rattle.unify_texts.proofs.figures.staying_rows.Goals as goal

pub loop-index-preserved : goal.loop-index-preserved
loop-index-preserved c =
    let few = lines_within c.args.names.now c.loop-index.index (number_at c.args.mapping.now c.loop-index.index) c.len-index-end.ensures.lawful in
    record { sum = grind (arith, common_steps, sum_more); few = grind (arith, few) }
