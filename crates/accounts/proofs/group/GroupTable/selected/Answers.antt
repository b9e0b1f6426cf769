use Rattle.std.proofs.Common.{refl, sym, subst, List}
use Rattle.accounts.specs.Laws.{IsGroupTable}
use Rattle.accounts.specs.Rows.{Group}
use Rattle.accounts.proofs.SelectedLemmas.{group-selected}
use Rattle.accounts.proofs.group.GroupTable.selected.Goals as goal

pub select_rows-requires : goal.select_rows-requires
select_rows-requires c κs =
    ((refl, tt), subst (λ (rows : List Group). IsGroupTable rows) (sym c.as_slice.ensures.value) c.self.invariant.1)

pub invariant_of-result : goal.invariant_of-result
invariant_of-result c = (
  c.in_ok-rows.ensures.known,
  group-selected _ _ _ _ c.as_slice.ensures.value c.in_ok-rows.ensures.those c.self.invariant.1,
)

pub returns-clause-table : goal.returns-clause-table
returns-clause-table c = group-selected _ _ _ _ c.as_slice.ensures.value c.in_ok-rows.ensures.those c.self.invariant.1
