use Rattle.std.proofs.Common.{◌≡◌, ◌∙◌}
use Rattle.std.proofs.lemmas.Result.{err_from_is_err_and}
use Rattle.reown_plan.specs.declared.plan.PlanFault.TheVariants.{Memory}
use Rattle.reown_reverse.proofs.Reversing.{reversed-lawful}
use Rattle.reown_reverse.specs.Reverse.{reversed}
use Rattle.unify_apply.proofs.marked.mark_of_reverse.Goals as goal

pub returns-in_err-back-clause-refused : goal.returns-in_err-back-clause-refused
returns-in_err-back-clause-refused c = λ lawful.
    let plan = c.args.plan.now in
    let memory = c.in_err-back.ensures.complete (reversed plan) (reversed-lawful plan lawful) (c.deref.ensures.value ∙ c.in_ok-text.ensures) in
    let p = err_from_is_err_and c.from_residual-in_err-back.result c.from_residual-in_err-back.ensures.1 in
    rw (p.1, p.2) memory
