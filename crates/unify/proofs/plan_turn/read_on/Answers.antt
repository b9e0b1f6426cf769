use Rattle.std.proofs.Common.{[], ◌++◌, refl, sym, ap, subst, ◌∙◌, append-nil, append_assoc}
use Rattle.std.proofs.lemmas.Result.{err_from_is_err_and, on_ok_weaker}
use Rattle.mtree_inv.proofs.StandLemmas.{at_none}
use Rattle.reown_plan.specs.Spelling.{lines}
use Rattle.reown_plan.specs.Target.{plan_of}
use Rattle.unify.specs.PlanTurns.{GoesOn}
use Rattle.unify.proofs.PlanTurns.{begun_turn, head_left, head_more, lines_changed, memory-changed, more_after, room_more, stands_more, told_more, unfinished_still, unfinished_turn}
use Rattle.unify.proofs.plan_turn.read_on.Goals as goal

pub returns-in_err-begin_plan-clause-told : goal.returns-in_err-begin_plan-clause-told
returns-in_err-begin_plan-clause-told c = λ text planned turns.
    let p = err_from_is_err_and c.from_residual.result c.from_residual.ensures.1 in
    rw (p.1, p.2) (λ changed. absurd (memory-changed changed))

pub returns-in_err-begin_plan-clause-stands : goal.returns-in_err-begin_plan-clause-stands
returns-in_err-begin_plan-clause-stands c = λ text planned turns.
    let p = err_from_is_err_and c.from_residual.result c.from_residual.ensures.1 in (
      [],
      c.in_err-begin_plan.ensures.plan ∙ sym (append-nil c.args.plan.now.items),
      rw p.1 (unfinished_still c.args.whose.now.host.now c.args.whose.now.site.now c.args.whose.now.merged.now c.args.whose.now.index c.args.turn.now text c.args.bytes.now (text ++ c.args.bytes.now) planned refl turns),
    )

pub returns-in_err-feed-clause-told : goal.returns-in_err-feed-clause-told
returns-in_err-feed-clause-told c = λ text planned turns.
    let p = err_from_is_err_and c.from_residual-in_err-feed.result c.from_residual-in_err-feed.ensures.1 in
    let begun = begun_turn c.args.whose.now.host.now c.args.whose.now.site.now c.args.whose.now.merged.now c.args.whose.now.index c.args.turn.now c.begin_plan.new.turn text planned turns c.in_ok-begin_plan.ensures.turn in
    rw (p.1, p.2) (lines_changed c.args.whose.now.host.now c.begin_plan.new.turn.reader.most (text ++ c.args.bytes.now) c.in_err-feed.field-0.0 begun.most (at_none _ begun.sound (c.in_err-feed.ensures.told text begun.reading)))

pub returns-in_err-feed-clause-stands : goal.returns-in_err-feed-clause-stands
returns-in_err-feed-clause-stands c = λ text planned turns.
    let p = err_from_is_err_and c.from_residual-in_err-feed.result c.from_residual-in_err-feed.ensures.1 in
    let old = c.args.turn.now in
    let host = c.args.whose.now.host.now in
    let begun = begun_turn host c.args.whose.now.site.now c.args.whose.now.merged.now c.args.whose.now.index old c.begin_plan.new.turn text planned turns c.in_ok-begin_plan.ensures.turn in (
      head_left host old.is_begun,
      c.in_ok-begin_plan.ensures.plan ∙ head_more host old.is_begun c.args.plan.now.items,
      rw p.1 (unfinished_turn host c.args.whose.now.site.now c.args.whose.now.merged.now c.args.whose.now.index c.begin_plan.new.turn text c.args.bytes.now (text ++ c.args.bytes.now) (planned ++ head_left host old.is_begun) refl begun),
    )

pub plan_waiting-requires-clause-room : goal.plan_waiting-requires-clause-room
plan_waiting-requires-clause-room c =
    let old = c.args.turn.now in
    let turn = c.begin_plan.new.turn in
    let after = c.feed.new.self in
    let host = c.args.whose.now.host.now in
    let goes = c.requires.goes in
    let more = more_after host c.args.whose.now.site.now c.args.whose.now.merged.now c.args.whose.now.index old turn after goes.0 (goes.0 ++ c.args.bytes.now) goes.1 goes.2 c.in_ok-begin_plan.ensures.turn c.in_ok-feed.ensures.most c.in_ok-feed.ensures.grow (c.in_ok-feed.ensures.stands goes.0) in
    room_more host c.args.whose.now.site.now c.args.whose.now.merged.now c.args.whose.now.index turn after goes.0 (goes.0 ++ c.args.bytes.now) (goes.1 ++ head_left host old.is_begun) more

pub plan_waiting-requires-clause-owners : goal.plan_waiting-requires-clause-owners
plan_waiting-requires-clause-owners c =
    let goes = c.requires.goes in
    (begun_turn c.args.whose.now.host.now c.args.whose.now.site.now c.args.whose.now.merged.now c.args.whose.now.index c.args.turn.now c.begin_plan.new.turn goes.0 goes.1 goes.2 c.in_ok-begin_plan.ensures.turn).known

pub returns-clause-told : goal.returns-clause-told
returns-clause-told c = λ text planned turns.
    let old = c.args.turn.now in
    let turn = c.begin_plan.new.turn in
    let after = c.feed.new.self in
    let host = c.args.whose.now.host.now in
    let more = more_after host c.args.whose.now.site.now c.args.whose.now.merged.now c.args.whose.now.index old turn after text (text ++ c.args.bytes.now) planned turns c.in_ok-begin_plan.ensures.turn c.in_ok-feed.ensures.most c.in_ok-feed.ensures.grow (c.in_ok-feed.ensures.stands text) in
    let told = at_none _ more.turns.sound (c.in_ok-feed.ensures.told text more.turns.reading) in
    told_more host c.args.whose.now.site.now c.args.whose.now.merged.now c.args.whose.now.index turn after text (text ++ c.args.bytes.now) (planned ++ head_left host old.is_begun) more c.plan_waiting.result told c.plan_waiting.ensures.owned c.plan_waiting.ensures.changed

pub returns-clause-stands : goal.returns-clause-stands
returns-clause-stands c = λ text planned turns.
    let old = c.args.turn.now in
    let turn = c.begin_plan.new.turn in
    let after = c.feed.new.self in
    let host = c.args.whose.now.host.now in
    let site = c.args.whose.now.site.now in
    let merged = c.args.whose.now.merged.now in
    let index = c.args.whose.now.index in
    let fed = text ++ c.args.bytes.now in
    let start = c.args.plan.now.items in
    let heading = head_left host old.is_begun in
    let more = more_after host site merged index old turn after text fed planned turns c.in_ok-begin_plan.ensures.turn c.in_ok-feed.ensures.most c.in_ok-feed.ensures.grow (c.in_ok-feed.ensures.stands text) in
    let done = c.plan_waiting.ensures.planned in
    let added = lines (plan_of site merged.mappings index done.0) in
    let sound = at_none _ more.turns.sound c.in_ok-feed.ensures.fault in
    let r = c.plan_waiting.result in
    let new = c.plan_waiting.new.turn in (
      heading ++ added,
      done.3 ∙ ap (λ t. t ++ added) (c.in_ok-begin_plan.ensures.plan ∙ head_more host old.is_begun start) ∙ append_assoc start heading added,
      subst (GoesOn host site merged index new fed r) (append_assoc planned heading added)
          (stands_more host site merged index turn after text fed (planned ++ heading) more r new done.0 done.1 done.2 done.4 c.plan_waiting.ensures.turn c.plan_waiting.ensures.owners c.in_ok-feed.ensures.going sound
          (on_ok_weaker r (λ go. go fed more.stands) c.plan_waiting.ensures.stands) c.plan_waiting.ensures.owned c.plan_waiting.ensures.counted),
    )
