use Rattle.reown_runner.proofs.Moments.{old_or_new}
use Rattle.reown_runner.proofs.laws.safe_is_old_or_new.Goals as goal

pub returns : goal.returns
returns c = old_or_new
