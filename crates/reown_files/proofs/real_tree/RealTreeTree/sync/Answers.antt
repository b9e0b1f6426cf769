use Rattle.std.proofs.Common.{◌∙◌, sym, subst}
use Rattle.reown_files.specs.Real.{RealData, FailsToSync}
use Rattle.reown_files.proofs.real_tree.RealTreeTree.sync.Goals as goal

pub returns-then-may_fail-clause-failure : goal.returns-then-may_fail-clause-failure
returns-then-may_fail-clause-failure g c =
    subst (λ (r : RealData). FailsToSync c.args.self.now r r.failure) (sym c.fail.ensures)
    (subst (λ (r : RealData). FailsToSync r c.keeps.new.self c.keeps.new.self.failure) (c.held_mark-held.ensures.untouched ∙ c.count.ensures) (c.keeps.ensures.failure c.if-not-keeps.true))
