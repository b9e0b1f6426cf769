use Rattle.unify_laws.proofs.Counted as counted
use Rattle.unify_laws.proofs.laws.printed_maps_are_counted.Goals as goal

pub returns : goal.returns
returns c = counted.printed_maps_are_counted
