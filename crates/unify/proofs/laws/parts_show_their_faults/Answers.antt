use Rattle.unify.proofs.SeenFaults as seen
use Rattle.unify.proofs.laws.parts_show_their_faults.Goals as goal

pub returns : goal.returns
returns c = seen.parts_show_their_faults
