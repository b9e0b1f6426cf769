use Rattle.ownership.specs.HostFiles.{CountsRows}
use Rattle.ownership.proofs.counting.KindCounting.add_rows.Given as goal

abbrev pub invariant-loop-row : goal.invariant-loop-row
invariant-loop-row g l = CountsRows l.names.names l.index (g.K.Kind.listed l.host) l.files l.row l.initial.self l.self
