use Rattle.hosts_join.proofs.FaultOrder.{claims_by_example}
use Rattle.hosts_join.proofs.laws.claims_by_example.Goals as goal

pub returns : goal.returns
returns c = claims_by_example
