use Rattle.reown_files.proofs.SetAtOnce.{modes_are_set_at_once}
use Rattle.reown_files.proofs.lawful.modes_are_set_at_once.Goals as goal

pub returns : goal.returns
returns c = modes_are_set_at_once
