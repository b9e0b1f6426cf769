use Rattle.unify.proofs.ToldLaws.{parts_tell_their_faults}
use Rattle.unify.proofs.laws.parts_tell_their_faults.Goals as goal

pub returns : goal.returns
returns c = parts_tell_their_faults
