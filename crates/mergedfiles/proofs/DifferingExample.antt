-- The example of differences.
use Rattle.std.proofs.Common.{refl}
use Rattle.idtext.specs.First.{first_fault}
use Rattle.idtext.specs.Numbers.{numeral}
use Rattle.idtext.specs.Pieces.{lines, pieces}
use Rattle.accounts.specs.Rows.{group_line, passwd_line}
use Rattle.accounts.specs.Tables.{group_table, line_fault, passwd_table, rows_from}
use Rattle.mergedfiles.specs.DifferingExample.{ExampleOfDiffering}
use Rattle.mergedfiles.specs.Order.{in_order}

pub differing_by_example : ExampleOfDiffering
unfolding first_fault numeral lines pieces group_line passwd_line group_table line_fault passwd_table rows_from in_order
differing_by_example ranges = refl
