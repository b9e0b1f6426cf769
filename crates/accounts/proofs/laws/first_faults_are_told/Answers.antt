use Rattle.accounts.proofs.RefusedLemmas.{passwd_stands, group_stands, passwd_told, group_told}
use Rattle.accounts.proofs.laws.first_faults_are_told.Goals as goal

pub returns : goal.returns
returns c = record {
  passwd = passwd_stands;
  group = group_stands;
  passwd_fault = passwd_told;
  group_fault = group_told;
}
