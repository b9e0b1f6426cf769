-- The example of a merged passwd and a merged group.
use Rattle.std.proofs.Common.{refl}
use Rattle.std.specs.Fmt.{digits}
use Rattle.idtext.specs.First.{first_fault}
use Rattle.idtext.specs.Numbers.{numeral}
use Rattle.idtext.specs.Pieces.{lines, pieces}
use Rattle.accounts.specs.Rows.{group_line, members_of, passwd_line}
use Rattle.accounts.specs.Tables.{group_table, line_fault, passwd_table, rows_from}
use Rattle.hosts_join.specs.Accounts.{first_appearances}
use Rattle.mergedfiles.specs.MergedExample.{ExampleOfMergedGroup, ExampleOfMergedPasswd}
use Rattle.mergedfiles.specs.Order.{in_order}

pub passwd_by_example : ExampleOfMergedPasswd
unfolding digits first_fault numeral lines pieces group_line passwd_line group_table line_fault passwd_table rows_from in_order
passwd_by_example ranges = refl

pub group_by_example : ExampleOfMergedGroup
unfolding digits first_fault numeral lines pieces group_line members_of passwd_line group_table line_fault passwd_table rows_from first_appearances in_order
group_by_example ranges = refl
