use Rattle.hosts_join.proofs.ReservedLaws.{nothing_reserved}
use Rattle.hosts_join.proofs.laws.nothing_reserved_changes_nothing.Goals as goal

pub returns : goal.returns
returns c = nothing_reserved
