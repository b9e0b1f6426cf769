use Rattle.std.proofs.Common.{[], Some, ◌++◌, refl, ap, ◌∙◌}
use Rattle.std.proofs.lemmas.Result.{err_from_is_err_and}
use Rattle.reown_plan.specs.OwnerChange.{line_of}
use Rattle.reown_plan.specs.Target.{target}
use Rattle.reown_plan.proofs.Writing.{one_line}
use Rattle.site_tables.specs.Hosts.{owner_fault}
use Rattle.unify.proofs.KnownOwners.{change_given}
use Rattle.unify.proofs.PlanTurns.{never-changed}
use Rattle.unify.proofs.Turns.{unowned_some}
use Rattle.unify.proofs.plan_turn.plan_file.Goals as goal

pub returns-then-not-find_owner-clause-changed : goal.returns-then-not-find_owner-clause-changed
returns-then-not-find_owner-clause-changed c = λ changed.
    unowned_some (owner_fault c.args.whose.now.host.now [] c.args.file.now) c.find_owner.result c.find_owner.ensures.owned c.if-not-find_owner.true

pub returns-in_err-push_plan_entry-clause-changed : goal.returns-in_err-push_plan_entry-clause-changed
returns-in_err-push_plan_entry-clause-changed c = λ changed.
    let p = err_from_is_err_and c.from_residual.result c.from_residual.ensures.1 in
    absurd (never-changed c.from_residual.result p.0 p.1 p.2 changed)

pub returns-in_err-push_plan_entry-clause-plan : goal.returns-in_err-push_plan_entry-clause-plan
returns-in_err-push_plan_entry-clause-plan c =
    let p = err_from_is_err_and c.from_residual.result c.from_residual.ensures.1 in
    rw p.1 c.in_err-push_plan_entry.ensures.text

pub returns-in_ok-push_plan_entry-clause-plan : goal.returns-in_ok-push_plan_entry-clause-plan
returns-in_ok-push_plan_entry-clause-plan c =
    let whose = c.args.whose.now in
    let file = c.args.file.now in
    let gives = change_given whose file c.find_owner.new.known.change (Some c.in-Some.change) c.in-Some.is (c.if-not-find_owner.ensures.found refl).1 in
    let line = ap (λ change. line_of change file.path) gives ∙ one_line (target whose.site.now whose.merged.now.mappings whose.index) file in
    c.in_ok-push_plan_entry.ensures.text ∙ ap (λ t. c.args.plan.now.items ++ t) line
