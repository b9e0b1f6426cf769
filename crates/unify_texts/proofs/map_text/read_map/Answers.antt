use Rattle.std.proofs.Common.{sym, ap, ◌∙◌, ◌++◌}
use Rattle.std.proofs.lemmas.List.{map_push}
use Rattle.hosts_join.specs.PairLines.{user_pair, group_pair}
use Rattle.unify_texts.specs.Maps.{is_good_after}
use Rattle.unify_texts.proofs.MapLoop.{reading_starts, reading_fails, reading_goes_on, reading_ends}
use Rattle.unify_texts.proofs.map_text.read_map.Goals as goal

pub loop-line-init : goal.loop-line-init
loop-line-init c = reading_starts c.args.text.now _ _ (c.into_iter-line-iterator.ensures.into_iter_gives ∙ c.new-line-items.ensures.lines) c.new.ensures c.new-2.ensures

pub returns-then-not-branch : goal.returns-then-not-branch
returns-then-not-branch c =
    reading_fails c.loop-line.invariant c.in-Some.ensures.steps c.saturating_add-number.ensures
    (sym (c.if-not-branch.true) ∙ c.in_ok-take_line.ensures.good ∙ ap (is_good_after c.loop-line.map) c.pair_line.ensures)

pub loop-line-preserved : goal.loop-line-preserved
loop-line-preserved c =
    let fine = c.if-not-branch.false in
    rw map_push
    (reading_goes_on c.loop-line.invariant c.in-Some.ensures.steps c.saturating_add-number.ensures c.take_line.new.map
    (sym fine ∙ c.in_ok-take_line.ensures.good ∙ ap (is_good_after c.loop-line.map) c.pair_line.ensures)
    (c.in_ok-take_line.ensures.users fine ∙ ap (λ m. c.loop-line.map.users ++ user_pair m) c.pair_line.ensures)
    (c.in_ok-take_line.ensures.groups fine ∙ ap (λ m. c.loop-line.map.groups ++ group_pair m) c.pair_line.ensures))

pub returns : goal.returns
returns c = reading_ends c.loop-line.invariant c.in-None.ensures.steps.0
