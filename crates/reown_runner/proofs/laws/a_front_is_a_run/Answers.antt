use Rattle.reown_runner.proofs.Moments.{safe_front}
use Rattle.reown_runner.proofs.laws.a_front_is_a_run.Goals as goal

pub returns : goal.returns
returns c = λ inventory records distinct host front rest refused end run safe. safe_front inventory records distinct host front rest refused end run safe
