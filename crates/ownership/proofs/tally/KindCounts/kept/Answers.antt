use Rattle.std.proofs.Common.{◌<◌, List, length, sym, ◌∙◌, ap, arith}
use Rattle.ownership.specs.Counts.{Tally, count_in, told_kept}
use Rattle.ownership.proofs.Reading.{tally-read}
use Rattle.ownership.proofs.tally.KindCounts.kept.Goals as goal

pub returns-clause-counted : goal.returns-clause-counted
returns-clause-counted c = λ names files counted there.
    let ts = c.self.inside.tallies.items in
    let within : c.args.name < length ts = omega (arith, c.requires, ap length c.self.view_is) in
    let read = tally-read ts c.args.name c.index.result.now within c.index.ensures in
    c.kept.ensures ∙ ap (λ (t : Tally). count_in t.cells c.args.number) (sym read)
    ∙ ap (λ (ts : List Tally). told_kept ts c.args.name c.args.number) c.self.view_is ∙ counted.kept_is c.args.name c.args.number there
