use Rattle.std.proofs.Common.{◌≡◌, take, map}
use Rattle.hosts_join.specs.Heads.{named}
use Rattle.hosts_join.proofs.order.in_byte_order.Given as goal

abbrev pub invariant-loop-place : goal.invariant-loop-place
invariant-loop-place l = l.order.items ≡ map (λ p. p.1) (map named (take l.place-index l.place-items))
