use Rattle.std.proofs.Common.{◌<◌, List, length, sym, ◌∙◌, ap, arith}
use Rattle.ownership.specs.Counts.{Tally, told_total}
use Rattle.ownership.proofs.Reading.{tally-read}
use Rattle.ownership.proofs.tally.KindCounts.total.Goals as goal

pub returns-clause-counted : goal.returns-clause-counted
returns-clause-counted c = λ names files counted there.
    let ts = c.self.inside.tallies.items in
    let within : c.args.name < length ts = omega (arith, c.requires, ap length c.self.view_is) in
    let read = tally-read ts c.args.name c.index.result.now within c.index.ensures in
    c.total.ensures ∙ ap (λ (t : Tally). t.total) (sym read) ∙ ap (λ (ts : List Tally). told_total ts c.args.name) c.self.view_is ∙ counted.total_is c.args.name there
