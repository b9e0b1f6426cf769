use Rattle.reown_runner.specs.State.{cells_at}
use Rattle.reown_runner.specs.Tree.{cells_of}
use Rattle.reown_runner.proofs.Finishing.{done_image}
use Rattle.reown_runner.proofs.laws.done_means_done.Goals as goal

pub returns-clause-trees : goal.returns-clause-trees
returns-clause-trees c = λ inventory plan records tree is. done_image inventory records (cells_of plan tree) is

pub returns-clause-worlds : goal.returns-clause-worlds
returns-clause-worlds c = λ inventory records s is. done_image inventory records (cells_at s) is
