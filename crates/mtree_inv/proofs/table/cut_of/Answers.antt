use Rattle.std.proofs.Common.{◌++◌, List, ℕ, sym, ap, ◌∙◌, subst}
use Rattle.mtree_inv.specs.Fronts.{AreFronts}
use Rattle.mtree_inv.specs.Table.{TableValue, files_in, IsTable}
use Rattle.mtree_inv.proofs.TableLemmas.{table-more, files-more}
use Rattle.mtree_inv.proofs.table.cut_of.Goals as goal

pub invariant_of-table : goal.invariant_of-table
invariant_of-table c =
    let added = c.cut.ensures.grow.0 in
    let are : AreFronts (c.table.inside.fronts ++ added) = subst AreFronts c.cut.ensures.grow.1 c.cut.ensures.fronts in
    subst (λ (fronts : List (List ℕ)). IsTable fronts c.table.inside.paths c.table.inside.owners.items) (sym c.cut.ensures.grow.1)
    (table-more c.table.inside.fronts added c.table.inside.paths c.table.inside.owners.items are c.table.invariant)

pub returns-clause-files : goal.returns-clause-files
returns-clause-files c =
    ap (λ (fronts : List (List ℕ)). files_in fronts c.table.inside.paths c.table.inside.owners.items) c.cut.ensures.grow.1
    ∙ files-more c.table.inside.fronts c.cut.ensures.grow.0 c.table.inside.paths c.table.inside.owners.items c.table.invariant.cut
    ∙ ap (λ (t : TableValue). t.files) c.table.view_is
