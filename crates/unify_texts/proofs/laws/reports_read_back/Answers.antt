use Rattle.unify_texts.proofs.ReportBack as back
use Rattle.unify_texts.proofs.laws.reports_read_back.Goals as goal

pub returns : goal.returns
returns c = back.reports_read_back
