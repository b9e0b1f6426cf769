use Rattle.std.proofs.Common.{sym, ap, ◌∙◌}
use Rattle.std.proofs.lemmas.List.{map_push}
use Rattle.keep_text.specs.KeepTexts.{may_stand}
use Rattle.keep_text.specs.KeepTaken.{with_line}
use Rattle.keep_text.proofs.KeepLoop.{reading_starts, reading_fails, reading_goes_on, reading_ends}
use Rattle.keep_text.proofs.keep_text.read_keep.Goals as goal

pub loop-line-init : goal.loop-line-init
loop-line-init c = reading_starts c.args.text.now _ _ (c.into_iter-line-iterator.ensures.into_iter_gives ∙ c.new-line-items.ensures.lines) c.new.ensures c.new-2.ensures

pub returns-then-not-branch : goal.returns-then-not-branch
returns-then-not-branch c =
    reading_fails c.loop-line.invariant c.in-Some.ensures.steps c.saturating_add-number.ensures
    (sym (c.if-not-branch.true) ∙ c.in_ok-take_line.ensures.good ∙ ap (may_stand c.loop-line.keep) c.keep_line.ensures)

pub loop-line-preserved : goal.loop-line-preserved
loop-line-preserved c =
    let fine = c.if-not-branch.false in
    rw map_push
    (reading_goes_on c.loop-line.invariant c.in-Some.ensures.steps c.saturating_add-number.ensures c.take_line.new.keep
    (sym fine ∙ c.in_ok-take_line.ensures.good ∙ ap (may_stand c.loop-line.keep) c.keep_line.ensures)
    (c.in_ok-take_line.ensures.taken fine ∙ ap (with_line c.loop-line.keep) c.keep_line.ensures))

pub returns : goal.returns
returns c = reading_ends c.loop-line.invariant c.in-None.ensures.steps.0
