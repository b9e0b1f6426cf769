use Rattle.reown_files.proofs.Failures.{unsettled_sync}
use Rattle.reown_files.specs.Real.{grows_on}
use Rattle.reown_files.proofs.real_tree.RealTree.keeps.Goals as goal

pub returns-then-keeps_files-clause-grows : goal.returns-then-keeps_files-clause-grows
returns-then-keeps_files-clause-grows g c =
    grows_on c.args.self.now.calls c.keeps_files.new.self.calls c.keeps_mark.new.self.calls c.keeps_files.ensures.grows c.keeps_mark.ensures.grows

pub returns-then-keeps_files-clause-failure : goal.returns-then-keeps_files-clause-failure
returns-then-keeps_files-clause-failure g c = λ e.
    unsettled_sync c.args.self.now c.keeps_mark.new.self c.keeps_mark.new.self.failure (c.keeps_mark.ensures.failed e) (c.keeps_mark.ensures.failure e)
