use Rattle.reown_runner.proofs.Finishing.{done_after}
use Rattle.reown_runner.proofs.laws.advances_from_start.Goals as goal

pub returns : goal.returns
returns c = done_after
