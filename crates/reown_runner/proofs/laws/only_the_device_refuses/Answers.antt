use Rattle.reown_runner.proofs.Moments.{device_alone}
use Rattle.reown_runner.proofs.laws.only_the_device_refuses.Goals as goal

pub returns : goal.returns
returns c = λ inventory records distinct host events refused end run safe. device_alone inventory records distinct host events refused end run safe
