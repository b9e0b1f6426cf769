use Rattle.std.proofs.Common.{◌∙◌, inl, inr, Option, ap, sym, subst}
use Rattle.std.proofs.lemmas.Result.{on_err_weaker}
use Rattle.reown_plan.specs.declared.plan.Owner.{Owner}
use Rattle.reown_files.specs.Real.{RealData, IsOutside}
use Rattle.reown_files.proofs.real_tree.RealTree.give.Goals as goal

pub returns-in_default-clause-why : goal.returns-in_default-clause-why
returns-in_default-clause-why g c =
    inl (subst (λ (before : Option Owner). IsOutside c.args.self.now.records c.args.path.now before c.args.after) (sym c.in_default.is ∙ c.requires) tt)

pub returns-then-self-clause-why : goal.returns-then-self-clause-why
returns-then-self-clause-why g c = inr (inl (sym (ap (λ (r : RealData). r.is_stopped) c.self.view_is) ∙ c.if-self.true))

pub returns-then-not-plans-clause-why : goal.returns-then-not-plans-clause-why
returns-then-not-plans-clause-why g c =
    inl (subst (λ (before : Option Owner). IsOutside c.args.self.now.records c.args.path.now before c.args.after) (sym c.in-Some.is ∙ c.requires) (c.plans.ensures.outside c.if-not-plans.true))

pub returns-clause-why : goal.returns-clause-why
returns-clause-why g c = on_err_weaker c.give_planned.result (λ failed. inr (inr failed)) c.give_planned.ensures.why
