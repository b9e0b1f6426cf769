use Rattle.std.proofs.Common.{◌∙◌, sym, subst}
use Rattle.reown_files.specs.Failed.{SeesMarkOtherwise}
use Rattle.reown_files.specs.Real.{FailsBy}
use Rattle.reown_files.proofs.Failures.{where_failed}
use Rattle.reown_files.proofs.real_tree.RealTree.sees_mark.Goals as goal

pub returns-clause-failed : goal.returns-clause-failed
returns-clause-failed g c = λ e.
    subst (FailsBy (SeesMarkOtherwise c.args.plan.now c.args.held) c.args.self.now) (sym c.note.ensures.rest)
    (where_failed c.compare_mark-told.result c.compare_mark-told.ensures.failed (sym c.note.ensures.told ∙ e))
