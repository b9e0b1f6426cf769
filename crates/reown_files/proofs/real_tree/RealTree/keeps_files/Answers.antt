use Rattle.std.proofs.Common.{◌∙◌, sym, ap}
use Rattle.reown_files.specs.Real.{RealData}
use Rattle.reown_files.proofs.Failures.{stopped_sync}
use Rattle.reown_files.proofs.real_tree.RealTree.keeps_files.Goals as goal

pub returns-then-self-clause-failure : goal.returns-then-self-clause-failure
returns-then-self-clause-failure g c = λ e.
    stopped_sync c.args.self.now c.note.new.self c.note.new.self.failure (sym (ap (λ (r : RealData). r.is_stopped) c.self.view_is) ∙ c.if-self.true) (c.note.ensures.failure e)
