use Rattle.std.proofs.Common.{refl, sym, subst, List}
use Rattle.accounts.specs.Laws.{IsPasswdTable}
use Rattle.accounts.specs.Rows.{Passwd}
use Rattle.accounts.proofs.SelectedLemmas.{passwd-selected, gids-selected}
use Rattle.accounts.proofs.passwd.PasswdTable.selected.Goals as goal

pub select_rows-requires : goal.select_rows-requires
select_rows-requires c κs =
    ((refl, tt), subst (λ (rows : List Passwd). IsPasswdTable rows) (sym c.as_slice.ensures.value) c.self.invariant.1)

pub invariant_of-result : goal.invariant_of-result
invariant_of-result c = (
  c.in_ok-rows.ensures.known,
  passwd-selected _ _ _ _ c.as_slice.ensures.value c.in_ok-rows.ensures.those c.self.invariant.1,
  gids-selected _ _ _ _ c.as_slice.ensures.value c.in_ok-rows.ensures.those c.self.invariant.2,
)

pub returns-clause-table : goal.returns-clause-table
returns-clause-table c = passwd-selected _ _ _ _ c.as_slice.ensures.value c.in_ok-rows.ensures.those c.self.invariant.1

pub returns-clause-primary_groups : goal.returns-clause-primary_groups
returns-clause-primary_groups c = gids-selected _ _ _ _ c.as_slice.ensures.value c.in_ok-rows.ensures.those c.self.invariant.2
