use Rattle.unify_texts.proofs.WholeReport as whole
use Rattle.unify_texts.proofs.laws.reports_tell_all.Goals as goal

pub returns : goal.returns
returns c = whole.reports_tell_all
