-- The examples of account files.
use Rattle.std.proofs.Common.{refl}
use Rattle.idtext.specs.First.{first_fault}
use Rattle.idtext.specs.Numbers.{numeral}
use Rattle.idtext.specs.Pieces.{pieces, lines}
use Rattle.accounts.specs.Examples.{ExampleOfPasswd, ExampleOfGroup, ExampleOfMembers}
use Rattle.accounts.specs.Rows.{passwd_line, group_line, members_of}
use Rattle.accounts.specs.Tables.{rows_from, line_fault, passwd_table, group_table}

pub passwd-example : ExampleOfPasswd
unfolding first_fault numeral pieces lines passwd_line rows_from line_fault passwd_table
passwd-example = refl

pub group-example : ExampleOfGroup
unfolding first_fault numeral pieces lines group_line rows_from line_fault group_table
group-example = refl

pub members-example : ExampleOfMembers
unfolding pieces members_of
members-example = refl
