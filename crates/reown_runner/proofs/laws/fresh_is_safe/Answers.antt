use Rattle.reown_runner.specs.State.{fresh, cells_at}
use Rattle.reown_runner.specs.Tree.{cells_of}
use Rattle.reown_runner.proofs.Finishing.{fresh_safe, fresh_history, fresh_stands}
use Rattle.reown_runner.proofs.laws.fresh_is_safe.Goals as goal

pub returns-clause-trees : goal.returns-clause-trees
returns-clause-trees c = λ inventory plan records tree is old. fresh_safe inventory records (cells_of plan tree) is old

pub returns-clause-worlds : goal.returns-clause-worlds
returns-clause-worlds c = λ inventory records image owner mark old. fresh_safe inventory records (cells_at (fresh image)) (fresh_history inventory image owner mark) old

pub returns-clause-stands : goal.returns-clause-stands
returns-clause-stands c = λ inventory plan tree is. fresh_stands inventory (cells_of plan tree) is
