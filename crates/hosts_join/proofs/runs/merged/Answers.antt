use Rattle.std.proofs.Common.{◌<◌, length, arith}
use Rattle.std.proofs.lemmas.List.{get_or_default}
use Rattle.hosts_join.proofs.RunLemmas.{Merged, merged-more, merged-end}
use Rattle.hosts_join.proofs.runs.merged.Goals as goal

pub loop-range-preserved : goal.loop-range-preserved
loop-range-preserved c =
    let within : c.loop-range.range-index < length c.args.sorted.now = omega arith in
    let before : Merged c.args.sorted.now c.loop-range.range-index c.loop-range.runs.items = record { apart = c.loop-range.invariant.apart; behind = c.loop-range.invariant.behind; same = c.loop-range.invariant.same } in
    let more = merged-more c.args.sorted.now c.loop-range.runs.items c.add_run.new.runs.items c.loop-range.range-index _ c.requires within (get_or_default c.args.sorted.now c.loop-range.range-index _ _ within) c.in_ok-add_run.ensures.apart c.in_ok-add_run.ensures.behind c.in_ok-add_run.ensures.added before in
    record { apart = more.apart; behind = more.behind; same = more.same }

pub returns-clause-same : goal.returns-clause-same
returns-clause-same c =
    merged-end c.args.sorted.now c.loop-range.runs.items c.loop-range.range-index (omega arith)
    (record { apart = c.loop-range.invariant.apart; behind = c.loop-range.invariant.behind; same = c.loop-range.invariant.same })
