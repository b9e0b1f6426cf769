use Rattle.reown_files.proofs.LeftModes.{modes_left, modes_told, modes_by_mark}
use Rattle.reown_files.proofs.PutFiles.{marks_seen, marks_met, modes_read_back, lines_of_met}
use Rattle.reown_files.proofs.read_back.files_that_were_put_are_read.Goals as goal

pub returns-clause-marks : goal.returns-clause-marks
returns-clause-marks c = marks_seen

pub returns-clause-met : goal.returns-clause-met
returns-clause-met c = marks_met

pub returns-clause-modes : goal.returns-clause-modes
returns-clause-modes c = modes_read_back

pub returns-clause-lines : goal.returns-clause-lines
returns-clause-lines c = lines_of_met

pub returns-clause-left : goal.returns-clause-left
returns-clause-left c = modes_left

pub returns-clause-told : goal.returns-clause-told
returns-clause-told c = modes_told

pub returns-clause-by_mark : goal.returns-clause-by_mark
returns-clause-by_mark c = modes_by_mark
