use Rattle.std.proofs.Common.{◌≡◌, ◌-◌, ◌*◌, ◌^◌, ◌<◌, ◌≤◌}
use Rattle.std.specs.List.{All}
use Rattle.hosts_join.specs.Heads.{head_after, head_of}
use Rattle.hosts_join.proofs.order.head.Given as goal

abbrev pub invariant-loop : goal.invariant-loop
invariant-loop l = record {
  few : l.counter ≤ 8;
  left : head_after (8 - l.counter) l.head l.rest ≡ head_of l.name;
  bytes : All (λ b. b < 256) l.rest;
  small : l.head < 2 ^ (8 * l.counter);
}
