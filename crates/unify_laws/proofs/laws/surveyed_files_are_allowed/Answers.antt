use Rattle.unify_laws.proofs.SurveyedFiles as survey
use Rattle.unify_laws.proofs.laws.surveyed_files_are_allowed.Goals as goal

pub returns : goal.returns
returns c = survey.surveyed_files_are_allowed
