use Rattle.reown_runner.proofs.TurnLaws.{old_files_are_written, marks_are_looked_into, is_told_truly, has_to_be_told}
use Rattle.reown_runner.proofs.laws.turns_look_first.Goals as goal

pub returns-clause-written : goal.returns-clause-written
returns-clause-written c = old_files_are_written

pub returns-clause-marked : goal.returns-clause-marked
returns-clause-marked c = marks_are_looked_into

pub returns-clause-told : goal.returns-clause-told
returns-clause-told c = is_told_truly

pub returns-clause-tells : goal.returns-clause-tells
returns-clause-tells c = has_to_be_told
