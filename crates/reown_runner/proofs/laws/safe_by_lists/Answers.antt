use Rattle.reown_runner.proofs.Finishing.{by_lists}
use Rattle.reown_runner.proofs.laws.safe_by_lists.Goals as goal

pub returns : goal.returns
returns c = λ inventory plan records. by_lists inventory records plan
