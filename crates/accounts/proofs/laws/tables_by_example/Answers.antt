use Rattle.accounts.proofs.Examples.{passwd-example, group-example, members-example}
use Rattle.accounts.proofs.laws.tables_by_example.Goals as goal

pub returns : goal.returns
returns c = record { passwd = passwd-example; group = group-example; members = members-example }
