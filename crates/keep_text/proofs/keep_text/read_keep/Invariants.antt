use Rattle.std.proofs.Common.{map}
use Rattle.keep_text.proofs.KeepLoop.{Reading}
use Rattle.keep_text.proofs.keep_text.read_keep.Given as goal

abbrev pub invariant-loop-line : goal.invariant-loop-line
invariant-loop-line l = Reading l.text (map (λ x. x.now) l.yielded) l.line-iterator l.number l.keep
