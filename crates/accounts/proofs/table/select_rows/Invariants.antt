use Rattle.std.proofs.Common.{◌≡◌, ◌++◌}
use Rattle.std.specs.Iterator.Adapters.{zip_first, zip_second}
use Rattle.std.specs.Slice.Iter.{iter_rest}
use Rattle.accounts.specs.Known.{known_of}
use Rattle.accounts.specs.Selected.{those}
use Rattle.accounts.proofs.table.select_rows.Given as goal

abbrev pub invariant-loop-row : goal.invariant-loop-row
invariant-loop-row g l = record {
  known : l.selected.index ≡ known_of g.R.Row.name_of g.R.Row.number_of l.selected.list.items;
  list : l.selected.list.items ++ those (iter_rest (zip_second l.row-iterator)) (iter_rest (zip_first l.row-iterator)) ≡ those l.flags l.rows;
}
