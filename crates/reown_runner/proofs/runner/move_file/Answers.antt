use Rattle.std.proofs.Common.{refl, sym, ◌∙◌, ap, None, is_some}
use Rattle.reown_plan.specs.Records.{record_of}
use Rattle.reown_runner.specs.Step.{record_turn}
use Rattle.reown_runner.proofs.Turns.{no_plan, turn-at_old, turn-at_new, advance-done, advance-failed, asked-one, at_device, not-not}
use Rattle.reown_runner.proofs.runner.move_file.Goals as goal

pub set_owner-requires : goal.set_owner-requires
set_owner-requires g c =
    let same = (c.owner.ensures.same no_plan).owners.owner c.args.planned.now.path.now in
    ap is_some (same ∙ sym c.in_ok-owner.ensures.answer ∙ c.in-Some.is)

pub returns-in_err-set_owner-in-Some-clause-step : goal.returns-in_err-set_owner-in-Some-clause-step
returns-in_err-set_owner-in-Some-clause-step g c = λ plan.
    let planned = record_of c.args.planned.now in
    let tested = sym c.eq.ensures ∙ c.if-eq.true in
    let read = sym c.in_ok-owner.ensures.answer ∙ c.in-Some.is in
    let is = ap (record_turn c.args.i planned c.args.next) read ∙ turn-at_old c.args.i planned c.args.next c.in-Some.owner tested in
    let h = advance-failed _ _ _ _ _ _ is (c.owner.ensures.same plan) (c.in_err-set_owner-in-Some.ensures.failed plan) in
    at_device _ _ _ c.from_residual-in_err-set_owner-in-Some.result c.from_residual-in_err-set_owner-in-Some.ensures.1 h

pub returns-in_err-set_owner-in-Some-clause-asked : goal.returns-in_err-set_owner-in-Some-clause-asked
returns-in_err-set_owner-in-Some-clause-asked g c =
    let planned = record_of c.args.planned.now in
    let tested = sym c.eq.ensures ∙ c.if-eq.true in
    let read = sym c.in_ok-owner.ensures.answer ∙ c.in-Some.is in
    let is = ap (record_turn c.args.i planned c.args.next) read ∙ turn-at_old c.args.i planned c.args.next c.in-Some.owner tested in
    asked-one _ _ _ _ _ _ is c.owner.ensures.asked c.set_owner.ensures.asked

pub returns-in_ok-set_owner-in-Some-clause-step : goal.returns-in_ok-set_owner-in-Some-clause-step
returns-in_ok-set_owner-in-Some-clause-step g c = λ plan.
    let planned = record_of c.args.planned.now in
    let tested = sym c.eq.ensures ∙ c.if-eq.true in
    let read = sym c.in_ok-owner.ensures.answer ∙ c.in-Some.is in
    let is = ap (record_turn c.args.i planned c.args.next) read ∙ turn-at_old c.args.i planned c.args.next c.in-Some.owner tested in
    advance-done _ _ _ _ _ _ is (c.owner.ensures.same plan) (c.in_ok-set_owner-in-Some.ensures.done plan)

pub returns-in_ok-set_owner-in-Some-clause-asked : goal.returns-in_ok-set_owner-in-Some-clause-asked
returns-in_ok-set_owner-in-Some-clause-asked g c =
    let planned = record_of c.args.planned.now in
    let tested = sym c.eq.ensures ∙ c.if-eq.true in
    let read = sym c.in_ok-owner.ensures.answer ∙ c.in-Some.is in
    let is = ap (record_turn c.args.i planned c.args.next) read ∙ turn-at_old c.args.i planned c.args.next c.in-Some.owner tested in
    asked-one _ _ _ _ _ _ is c.owner.ensures.asked c.set_owner.ensures.asked

pub returns-else-ne-clause-step : goal.returns-else-ne-clause-step
returns-else-ne-clause-step g c = λ plan.
    let planned = record_of c.args.planned.now in
    let not_old = sym c.eq.ensures ∙ c.if-eq.false in
    let is_new = not-not _ (sym c.ne.ensures ∙ c.if-ne.false) in
    let read = sym c.in_ok-owner.ensures.answer ∙ c.in-Some.is in
    let is = ap (record_turn c.args.i planned c.args.next) read ∙ turn-at_new c.args.i planned c.args.next c.in-Some.owner not_old is_new in
    (record { operation = None; next = c.args.next }, is, refl, (c.owner.ensures.same plan))
