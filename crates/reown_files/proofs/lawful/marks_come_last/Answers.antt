use Rattle.reown_files.proofs.InOrder.{marks_come_last, kept_marks_are_synced}
use Rattle.reown_files.proofs.lawful.marks_come_last.Goals as goal

pub returns : goal.returns
returns c = record { put = marks_come_last; kept = kept_marks_are_synced }
