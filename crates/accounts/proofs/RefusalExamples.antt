-- The examples of account files that are refused.
use Rattle.std.proofs.Common.{refl}
use Rattle.idtext.specs.First.{first_fault}
use Rattle.idtext.specs.Numbers.{numeral}
use Rattle.idtext.specs.Pieces.{pieces, lines}
use Rattle.accounts.specs.Refusals.{EachIsTold, EachOfGroupIsTold, FirstLineIsTold}
use Rattle.accounts.specs.Rows.{passwd_line, group_line}
use Rattle.accounts.specs.Tables.{rows_from, line_fault, passwd_table, group_table}

pub each-told : EachIsTold
unfolding first_fault numeral pieces lines passwd_line rows_from line_fault passwd_table
each-told = record {
  compat = refl;
  compat_minus = refl;
  six_fields = refl;
  eight_fields = refl;
  name = refl;
  uid = refl;
  gid = refl;
  great_uid = refl;
  name_twice = refl;
  name_alone = refl;
  uid_shared = refl;
}

pub each_of_group-told : EachOfGroupIsTold
unfolding first_fault numeral pieces lines group_line rows_from line_fault group_table
each_of_group-told = record {
  compat = refl;
  compat_minus = refl;
  three_fields = refl;
  five_fields = refl;
  name = refl;
  gid = refl;
  great_gid = refl;
  name_twice = refl;
  name_alone = refl;
  gid_shared = refl;
}

pub first_line-told : FirstLineIsTold
unfolding first_fault numeral pieces lines passwd_line group_line rows_from line_fault passwd_table group_table
first_line-told = record {
  passwd = refl;
  group = refl;
}
