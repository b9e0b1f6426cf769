use Rattle.std.proofs.Common.{◌+◌, ◌++◌, get_or, drop, ap, ◌∙◌, arith}
use Rattle.reown_plan.specs.Spelling.{lines}
use Rattle.reown_plan.proofs.Repeats.{nothing, gone, next_line}
use Rattle.reown_plan.proofs.records.behind_records.Goals as goal

pub loop-init : goal.loop-init
loop-init c = λ records rest lawful long e. e

pub loop-preserved : goal.loop-preserved
loop-preserved c = λ records rest lawful long e.
    let k = c.loop.counter in
    (c.in-Some.ensures.complete (get_or records k nothing) (lines (drop (k + 1) records) ++ rest) (lawful k nothing (omega arith)) (next_line records k c.loop.rest.now rest (omega arith) (c.loop.invariant records rest lawful long e))).1

pub returns-in_default : goal.returns-in_default
returns-in_default c = λ records rest lawful long e.
    let k = c.loop.counter in
    absurd (c.in_default.ensures.complete (get_or records k nothing) (lines (drop (k + 1) records) ++ rest) (lawful k nothing (omega arith)) (next_line records k c.loop.rest.now rest (omega arith) (c.loop.invariant records rest lawful long e)))

pub returns : goal.returns
returns c = λ records rest lawful long e. c.loop.invariant records rest lawful long e ∙ ap (λ cs. lines cs ++ rest) (gone c.loop.counter records (omega arith))
