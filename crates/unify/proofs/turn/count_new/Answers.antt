use Rattle.unify.proofs.Turns.{counted_next, still_counted}
use Rattle.unify.proofs.turn.count_new.Goals as goal

pub returns-in-Some-clause-counted : goal.returns-in-Some-clause-counted
returns-in-Some-clause-counted c = λ files counted.
    still_counted c.args.host.now c.args.turn.now.rows c.args.turn.now.unowned c.in-Some.field-0 files c.args.turn.now.reader.waiting c.in-Some.is counted

pub returns-clause-counted : goal.returns-clause-counted
returns-clause-counted c = λ files counted.
    counted_next c.args.host.now c.args.turn.now.rows c.count_waiting.new.rows c.args.turn.now.unowned c.count_waiting.result files c.args.turn.now.reader.waiting c.in_default.is counted c.count_waiting.ensures.counted
