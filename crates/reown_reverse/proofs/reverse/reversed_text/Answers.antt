use Rattle.std.proofs.Common.{◌≡◌, ◌≤◌, ◌++◌, length, take, rules}
use Rattle.std.proofs.lemmas.List.{take_all}
use Rattle.reown_plan.specs.Spelling.{head, end}
use Rattle.reown_reverse.proofs.Reversing.{reversed-text}
use Rattle.reown_reverse.proofs.reverse.reversed_text.Goals as goal

pub returns : goal.returns
returns c =
    let items = c.records-planned-items.result.now in
    let at_end : length items ≤ c.loop-planned.planned-index = search rules in
    let all : take c.loop-planned.planned-index items ≡ items = take_all c.loop-planned.planned-index items at_end in
    let after : c.push_plan_end.new.text.items ≡ c.loop-planned.text.items ++ end = search rules in
    reversed-text (head c.args.plan.now.host) c.loop-planned.text.items _ end items c.args.plan.now.records c.loop-planned.planned-index c.loop-planned.invariant all c.records-planned-items.ensures.records after
