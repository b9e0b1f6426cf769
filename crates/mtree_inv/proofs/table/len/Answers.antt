use Rattle.std.proofs.Common.{length, refl, ap, ◌∙◌, arith}
use Rattle.mtree_inv.specs.Table.{TableValue}
use Rattle.mtree_inv.proofs.TableLemmas.{length-files}
use Rattle.mtree_inv.proofs.table.len.Goals as goal

pub returns : goal.returns
returns c =
    let files = length-files c.table.inside.fronts c.table.inside.paths c.table.inside.owners.items c.table.invariant.owned ∙ refl in
    omega (arith, c.len.ensures, files, ap (λ (t : TableValue). length t.files) c.table.view_is)
