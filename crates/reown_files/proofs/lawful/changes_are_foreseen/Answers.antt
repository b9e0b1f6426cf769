use Rattle.reown_files.proofs.InOrder.{changes_are_foreseen}
use Rattle.reown_files.proofs.lawful.changes_are_foreseen.Goals as goal

pub returns : goal.returns
returns c = changes_are_foreseen
