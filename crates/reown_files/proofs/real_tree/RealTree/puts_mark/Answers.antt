use Rattle.std.proofs.Common.{◌∙◌, sym, subst}
use Rattle.reown_files.specs.Real.{IsNotPut}
use Rattle.reown_files.proofs.Failures.{where_failed}
use Rattle.reown_files.proofs.real_tree.RealTree.puts_mark.Goals as goal

pub returns-clause-why : goal.returns-clause-why
returns-clause-why g c = λ e.
    subst (IsNotPut c.args.plan.now c.args.self.now) (sym c.note.ensures.rest)
    (where_failed c.put_mark-told.result c.put_mark-told.ensures.why (sym c.note.ensures.told ∙ e))
