use Rattle.unify_texts.proofs.FaultsTold as told
use Rattle.unify_texts.proofs.laws.faults_are_told.Goals as goal

pub returns : goal.returns
returns c = told.faults_are_told
