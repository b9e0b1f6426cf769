use Rattle.unify_apply.proofs.AskedBack.{device-told, journal-told, one-journal}
use Rattle.unify_apply.proofs.laws.journals_are_told.Goals as goal

pub returns : goal.returns
returns c = record { kind = one-journal; process = journal-told; device = device-told }
