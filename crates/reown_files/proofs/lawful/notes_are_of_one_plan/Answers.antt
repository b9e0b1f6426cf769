use Rattle.reown_files.proofs.InOrder.{notes_are_of_the_plan}
use Rattle.reown_files.proofs.lawful.notes_are_of_one_plan.Goals as goal

pub returns : goal.returns
returns c = λ mark plan records later earlier. notes_are_of_the_plan mark plan records later earlier
