use Rattle.unify.proofs.ReportLaws as reports
use Rattle.unify.proofs.laws.outcomes_are_reported.Goals as goal

pub returns : goal.returns
returns c = reports.outcomes_are_reported
