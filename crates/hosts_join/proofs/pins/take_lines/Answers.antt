use Rattle.std.proofs.Common.{sym, ap, ◌∙◌, ◌++◌, refl}
use Rattle.std.proofs.lemmas.List.{map_push}
use Rattle.std.proofs.lemmas.Result.{err_from_is_err_and}
use Rattle.hosts_join.specs.PairLines.{user_pair, group_pair}
use Rattle.hosts_join.specs.PinsText.{may_stand}
use Rattle.hosts_join.specs.PinsInside.{drafted}
use Rattle.hosts_join.proofs.PinLemmas.{pair_line-id, reading_starts, reading_is_long, reading_fails, reading_goes_on, reading_ends}
use Rattle.hosts_join.proofs.pins.take_lines.Goals as goal

pub loop-line-init : goal.loop-line-init
loop-line-init c = reading_starts c.args.text.now _ c.args.draft.now (c.into_iter-line-iterator.ensures.into_iter_gives ∙ c.new-line-items.ensures.lines) c.requires.draft c.requires.empty

pub take_line-requires-clause-id : goal.take_line-requires-clause-id
take_line-requires-clause-id c = rw c.pair_line.ensures (pair_line-id c.in-Some.line.now)

pub returns-in_err-take_line-clause-pins : goal.returns-in_err-take_line-clause-pins
returns-in_err-take_line-clause-pins c =
    let p = err_from_is_err_and c.from_residual.result c.from_residual.ensures.1 in
    rw (p.1, p.2) tt

pub returns-then-number-gt-MOST_LINES-clause-pins : goal.returns-then-number-gt-MOST_LINES-clause-pins
returns-then-number-gt-MOST_LINES-clause-pins c = reading_is_long c.loop-line.invariant c.in-Some.ensures.steps refl c.if-number-gt-MOST_LINES.true

pub returns-then-not-branch-clause-pins : goal.returns-then-not-branch-clause-pins
returns-then-not-branch-clause-pins c =
    reading_fails c.loop-line.invariant c.in-Some.ensures.steps refl
    (sym (c.if-not-branch.true) ∙ c.in_ok-take_line.ensures.good ∙ ap (may_stand (drafted c.loop-line.draft)) c.pair_line.ensures)

pub loop-line-preserved : goal.loop-line-preserved
loop-line-preserved c =
    let fine = c.if-not-branch.false in
    rw map_push
    (reading_goes_on c.loop-line.invariant c.in-Some.ensures.steps refl c.take_line.new.draft c.if-number-gt-MOST_LINES.false
    (sym fine ∙ c.in_ok-take_line.ensures.good ∙ ap (may_stand (drafted c.loop-line.draft)) c.pair_line.ensures)
    (c.in_ok-take_line.ensures.users fine ∙ ap (λ m. c.loop-line.draft.users.pairs ++ user_pair m) c.pair_line.ensures)
    (c.in_ok-take_line.ensures.groups fine ∙ ap (λ m. c.loop-line.draft.groups.pairs ++ group_pair m) c.pair_line.ensures)
    (c.in_ok-take_line.ensures.draft fine))

pub returns-clause-pins : goal.returns-clause-pins
returns-clause-pins c = reading_ends c.loop-line.invariant c.in-None.ensures.steps.0
