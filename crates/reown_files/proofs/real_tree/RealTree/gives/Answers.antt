use Rattle.std.proofs.Common.{◌∙◌, sym, subst}
use Rattle.reown_files.specs.Real.{IsNotGiven}
use Rattle.reown_files.proofs.Failures.{where_failed}
use Rattle.reown_files.proofs.real_tree.RealTree.gives.Goals as goal

pub returns-clause-why : goal.returns-clause-why
returns-clause-why g c = λ e.
    subst (IsNotGiven c.args.path.now c.args.after c.args.self.now) (sym c.note.ensures.rest)
    (where_failed c.give-told.result c.give-told.ensures.why (sym c.note.ensures.told ∙ e))
