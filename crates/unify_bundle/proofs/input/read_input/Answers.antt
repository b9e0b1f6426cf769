use Rattle.std.proofs.Common.{ℕ, ◌++◌, take, arith, length-append, length-take}
use Rattle.unify_bundle.proofs.Telling.{consumes_more}
use Rattle.unify_bundle.proofs.input.read_input.Goals as goal

pub returns-then-count-len-clause-taken : goal.returns-then-count-len-clause-taken
returns-then-count-len-clause-taken g c = (
  c.loop-turn.input.items ++ take c.in-Ok.count c.read.new.buffer,
  consumes_more _ _ _ _ _ c.loop-turn.invariant.taken c.in-Ok.ensures.bytes.0,
  omega (arith, length-append c.loop-turn.input.items (take c.in-Ok.count c.read.new.buffer), length-take c.in-Ok.count c.read.new.buffer, c.in-Ok.ensures.bound, c.read.auto.buffer, c.min-room.ensures, length-take {A = ℕ}),
)

pub returns-then-is_err-clause-taken : goal.returns-then-is_err-clause-taken
returns-then-is_err-clause-taken g c = (
  c.loop-turn.input.items ++ take c.in-Ok.count c.read.new.buffer,
  consumes_more _ _ _ _ _ c.loop-turn.invariant.taken c.in-Ok.ensures.bytes.0,
  omega (arith, length-append c.loop-turn.input.items (take c.in-Ok.count c.read.new.buffer), length-take c.in-Ok.count c.read.new.buffer, c.in-Ok.ensures.bound, c.read.auto.buffer, c.min-room.ensures, length-take {A = ℕ}),
)
