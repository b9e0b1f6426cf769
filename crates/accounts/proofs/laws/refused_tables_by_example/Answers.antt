use Rattle.accounts.proofs.RefusalExamples.{each-told, each_of_group-told, first_line-told}
use Rattle.accounts.proofs.laws.refused_tables_by_example.Goals as goal

pub returns : goal.returns
returns c = record { passwd = each-told; group = each_of_group-told; first = first_line-told }
