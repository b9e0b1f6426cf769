use Rattle.rehearsal.proofs.RehearsalLaws.{rehearsals_tell}
use Rattle.rehearsal.proofs.laws.rehearsals_tell_files.Goals as goal

pub returns : goal.returns
returns c = rehearsals_tell
