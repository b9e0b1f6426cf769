use Rattle.unify_merge.proofs.RehearsalsRead.{refused_rehearsals, rehearsals_read}
use Rattle.unify_merge.proofs.laws.rehearsals_read_to_the_end.Goals as goal

pub returns : goal.returns
returns c = record { answered = rehearsals_read; refused = refused_rehearsals }
