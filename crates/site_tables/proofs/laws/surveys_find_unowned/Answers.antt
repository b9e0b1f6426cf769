use Rattle.site_tables.proofs.SurveyFaults.{first_faults_of_surveys}
use Rattle.site_tables.proofs.SurveyLaws.{surveyed_texts_find_unowned, surveys_find_unowned}
use Rattle.site_tables.proofs.SurveyOrder.{found_numbers_stand_in_order}
use Rattle.site_tables.proofs.laws.surveys_find_unowned.Goals as goal

pub returns-clause-passes : goal.returns-clause-passes
returns-clause-passes c = surveys_find_unowned

pub returns-clause-texts : goal.returns-clause-texts
returns-clause-texts c = surveyed_texts_find_unowned

pub returns-clause-order : goal.returns-clause-order
returns-clause-order c = found_numbers_stand_in_order

pub returns-clause-refused : goal.returns-clause-refused
returns-clause-refused c = first_faults_of_surveys
