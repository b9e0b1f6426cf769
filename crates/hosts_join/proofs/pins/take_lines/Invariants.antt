use Rattle.std.proofs.Common.{map}
use Rattle.hosts_join.proofs.PinLemmas.{Reading}
use Rattle.hosts_join.proofs.pins.take_lines.Given as goal

abbrev pub invariant-loop-line : goal.invariant-loop-line
invariant-loop-line l = Reading l.text (map (λ x. x.now) l.yielded) l.line-iterator l.number l.draft
