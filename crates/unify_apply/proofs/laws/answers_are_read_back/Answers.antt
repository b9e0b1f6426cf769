use Rattle.unify_apply.proofs.CountsBack.{counts-back, done-back}
use Rattle.unify_apply.proofs.laws.answers_are_read_back.Goals as goal

pub returns : goal.returns
returns c = record { counts = counts-back; done = done-back }
