use Rattle.reown_runner.specs.Tree.{cells_of}
use Rattle.reown_runner.proofs.Histories.{stop_sound}
use Rattle.reown_runner.proofs.laws.a_stop_stays_safe.Goals as goal

pub returns : goal.returns
returns c = λ inventory plan records place old new readable stop safe. stop_sound inventory records place (cells_of plan old) (cells_of plan new) readable stop safe
