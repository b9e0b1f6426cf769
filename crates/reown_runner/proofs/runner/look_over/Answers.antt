use Rattle.std.proofs.Common.{◌<◌, get_or, length, map, refl, sym, ◌∙◌, ap, subst, arith, inl, Err}
use Rattle.reown_plan.specs.Records.{record_of}
use Rattle.reown_runner.specs.declared.runner.RunFault.{RunFault}
use Rattle.reown_runner.specs.Tree.{cells_of, Does}
use Rattle.reown_runner.specs.Step.{IsAdvance, is_new, not_new, marked_turn}
use Rattle.reown_runner.proofs.Turns.{at_device, kept, marked-ends, marked-more, no_plan, not_new-refused, nothing_planned, same}
use Rattle.reown_runner.proofs.runner.look_over.Goals as goal

pub loop-i-init : goal.loop-i-init
loop-i-init g c = record { passed = refl; same = λ plan. kept _; counted = refl; asked = refl; follows = g.met.T.Tree.rests c.args.tree.now }

pub loop-i-preserved : goal.loop-i-preserved
loop-i-preserved g c =
    let inv = c.loop-i.invariant in
    let old = g.T.Tree.known c.args.tree.now in
    let planned = record_of (get_or c.args.records.now c.loop-i.i nothing_planned) in
    let below : c.loop-i.i < length c.args.records.now = omega arith in
    let read = sym ((inv.same no_plan).owners.owner planned.path) ∙ sym c.in_ok-owner.ensures.answer in
    record {
      passed = inv.passed ∙ marked-more c.args.records.now c.loop-i.i nothing_planned below old.owner (ap (is_new planned) read ∙ sym c.has_new.ensures ∙ c.if-not-has_new.false);
      same = λ plan. same (inv.same plan) (c.owner.ensures.same plan);
      counted = c.in_ok-owner.ensures.faults ∙ inv.counted;
      asked = c.owner.ensures.asked ∙ inv.asked;
      follows = g.met.T.Tree.goes_on c.args.tree.now c.loop-i.tree c.owner.new.self inv.follows c.owner.ensures.follows;
    }

pub returns-in_err-owner-clause-step : goal.returns-in_err-owner-clause-step
returns-in_err-owner-clause-step g c = λ plan. at_device _ _ _ c.from_residual.result c.from_residual.ensures.1 (inl (same (c.loop-i.invariant.same plan) (c.owner.ensures.same plan)))

pub returns-then-not-has_new-clause-step : goal.returns-then-not-has_new-clause-step
returns-then-not-has_new-clause-step g c = λ plan.
    let inv = c.loop-i.invariant in
    let old = g.T.Tree.known c.args.tree.now in
    let new = g.T.Tree.known c.owner.new.self in
    let turn = marked_turn 0 (map record_of c.args.records.now) old.owner in
    let planned = record_of (get_or c.args.records.now c.loop-i.i nothing_planned) in
    let below : c.loop-i.i < length c.args.records.now = omega arith in
    let read = sym ((inv.same no_plan).owners.owner planned.path) ∙ sym c.in_ok-owner.ensures.answer in
    let ends = inv.passed ∙ marked-ends c.args.records.now c.loop-i.i nothing_planned below old.owner (ap (is_new planned) read ∙ sym c.has_new.ensures ∙ c.if-not-has_new.true) ∙ ap (λ o. Err (not_new c.loop-i.i planned o)) read in
    subst (λ (f : RunFault). IsAdvance turn (λ operation. Does operation (cells_of plan old) (cells_of plan new)) (Err f)) (sym c.refused_as.ensures)
    (not_new-refused c.loop-i.i planned c.in_ok-owner.owner turn (λ operation. Does operation (cells_of plan old) (cells_of plan new)) ends (same (inv.same plan) (c.owner.ensures.same plan)))
