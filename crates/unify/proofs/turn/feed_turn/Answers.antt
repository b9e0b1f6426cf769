use Rattle.std.proofs.Common.{◌≡◌, ◌++◌, sym, ◌∙◌}
use Rattle.unify.proofs.Turns.{room_after}
use Rattle.unify.proofs.Turns.{met_none, sound_before}
use Rattle.unify.proofs.turn.feed_turn.Goals as goal

pub count_new-requires : goal.count_new-requires
count_new-requires c =
    let turn = c.args.turn.now in
    let sound = sound_before turn.reader.fault (λ f. c.feed.new.self ≡ turn.reader) c.in_default.field-0 c.in_default.ensures.failed in
    let going = c.requires (met_none c.args.host.now turn.reader.is_finished turn.reader.fault turn.unowned (sym c.is_finished.ensures ∙ c.if-is_finished.false) sound) in
    room_after c.args.host.now turn c.feed.new.self going.0 (going.0 ++ c.args.bytes.now) going.1 (c.in_default.ensures.stands going.0 going.1.reading) c.in_default.ensures.most c.in_default.ensures.grow
