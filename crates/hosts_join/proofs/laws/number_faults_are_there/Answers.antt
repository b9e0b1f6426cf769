use Rattle.hosts_join.proofs.NumberFaults.{clashes_are_there, small_pools_are_there}
use Rattle.hosts_join.proofs.laws.number_faults_are_there.Goals as goal

pub returns : goal.returns
returns c = record { clashes = clashes_are_there; pools = small_pools_are_there }
