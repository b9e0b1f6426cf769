use Rattle.rehearsal.proofs.Refusals.{refusals_are_told}
use Rattle.rehearsal.proofs.laws.refusals_are_told.Goals as goal

pub returns : goal.returns
returns c = refusals_are_told
