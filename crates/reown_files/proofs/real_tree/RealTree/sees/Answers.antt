use Rattle.std.proofs.Common.{◌∙◌, sym, subst}
use Rattle.reown_files.specs.Failed.{SeesOtherwise}
use Rattle.reown_files.specs.Real.{FailsBy}
use Rattle.reown_files.proofs.Failures.{where_failed}
use Rattle.reown_files.proofs.real_tree.RealTree.sees.Goals as goal

pub returns-clause-failed : goal.returns-clause-failed
returns-clause-failed g c = λ e.
    subst (FailsBy (SeesOtherwise c.args.path.now c.args.held) c.args.self.now) (sym c.note.ensures.rest)
    (where_failed c.compare_owner-told.result c.compare_owner-told.ensures.failed (sym c.note.ensures.told ∙ e))
