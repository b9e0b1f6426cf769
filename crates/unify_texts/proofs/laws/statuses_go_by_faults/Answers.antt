use Rattle.unify_texts.proofs.FaultExamples as told
use Rattle.unify_texts.proofs.laws.statuses_go_by_faults.Goals as goal

pub returns : goal.returns
returns c = told.statuses_go_by_faults
