use Rattle.reown_files.proofs.ModesText.{lines_back}
use Rattle.reown_files.proofs.WholeModes.{modes_of_one_plan, ended_by_one_mark, judged, cut_refused}
use Rattle.reown_files.proofs.read_back.modes_are_read_back.Goals as goal

pub returns-clause-plan : goal.returns-clause-plan
returns-clause-plan c = modes_of_one_plan

pub returns-clause-ended : goal.returns-clause-ended
returns-clause-ended c = ended_by_one_mark

pub returns-clause-entries : goal.returns-clause-entries
returns-clause-entries c = lines_back

pub returns-clause-judged : goal.returns-clause-judged
returns-clause-judged c = judged

pub returns-clause-cut : goal.returns-clause-cut
returns-clause-cut c = cut_refused
