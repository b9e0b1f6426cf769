use Rattle.std.proofs.Common.{◌≡◌, ◌≤◌, length, get_or, ap, sym, ◌∙◌, arith, []}
use Rattle.std.proofs.lemmas.List.{take_all, length-map}
use Rattle.reown_plan.specs.PlanData.{PlanData}
use Rattle.reown_plan.specs.Spelling.{spelling}
use Rattle.unify_bundle.proofs.Carrying.{plans_more, spelled_at}
use Rattle.unify_bundle.proofs.rehearsing_site.read_plans.Goals as goal

pub read_plan-requires : goal.read_plan-requires
read_plan-requires c =
    let plans = c.requires.0 in
    let none : PlanData = record { host = []; records = [] } in
    let there = spelled_at c.texts-spelled.result.now plans (c.texts-spelled.ensures ∙ c.requires.2) c.loop-text.text-index c.text-item.result none c.loop-text-test.true c.text-item.is in
    (get_or plans c.loop-text.text-index none, c.requires.1 c.loop-text.text-index none there.0, c.bytes.ensures ∙ there.1)

pub loop-text-preserved : goal.loop-text-preserved
loop-text-preserved c = λ plans lawful spelled.
    let own = c.in_ok-read_plan.ensures in
    c.in_ok-push.ensures.items
    ∙ plans_more c.texts-spelled.result.now plans spelled lawful c.loop-text.text-index c.text-item.result c.loop-text-test.true c.text-item.is c.in_ok-read_plan.field-0 own.0 (sym c.bytes.ensures ∙ own.1) c.loop-text.plans.items (c.loop-text.invariant plans lawful spelled)

pub returns : goal.returns
returns c = λ plans lawful spelled.
    let here : c.texts-spelled.result.now ≡ _ = c.texts-spelled.ensures ∙ spelled in
    let all : length plans ≤ c.loop-text.text-index = omega (arith, ap length spelled, ap length c.texts-spelled.ensures, length-map plans spelling, c.loop-text-test.false) in
    c.loop-text.invariant plans lawful here ∙ take_all c.loop-text.text-index plans all
