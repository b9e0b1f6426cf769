use Rattle.reown_runner.proofs.Memories.{reopen_mark}
use Rattle.reown_runner.proofs.failing.FailTreeTree.reopen.Goals as goal

pub returns-clause-mark : goal.returns-clause-mark
returns-clause-mark c = reopen_mark c.args.self.now.tree c.stop.new.self.tree c.stop.ensures.chosen
