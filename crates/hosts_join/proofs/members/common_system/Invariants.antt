use Rattle.std.proofs.Common.{◌≡◌, ℕ, ◌&&◌, take}
use Rattle.std.specs.List.{list_all}
use Rattle.logindefs.specs.Ranges.{in_range}
use Rattle.hosts_join.specs.Rules.{is_id}
use Rattle.hosts_join.proofs.members.common_system.Given as goal

abbrev pub invariant-loop-host : goal.invariant-loop-host
invariant-loop-host l = (v : ℕ) → in_range l.common v ≡ (is_id v && list_all (λ h. in_range h.system v) (take l.host-index l.hosts))
