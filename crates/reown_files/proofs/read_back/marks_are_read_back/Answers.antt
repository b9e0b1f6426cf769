use Rattle.reown_files.proofs.MarksText.{marks_back}
use Rattle.reown_files.proofs.read_back.marks_are_read_back.Goals as goal

pub returns : goal.returns
returns c = marks_back
