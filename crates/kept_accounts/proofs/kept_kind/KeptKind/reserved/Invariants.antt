use Rattle.std.proofs.Common.{◌≡◌, ◌++◌, take, map}
use Rattle.std.specs.Prelude.{flat_map}
use Rattle.kept_accounts.specs.Keeping.{keeps}
use Rattle.kept_accounts.specs.Reserving.{by_range, reserved_on}
use Rattle.kept_accounts.proofs.kept_kind.KeptKind.reserved.Given as goal

abbrev pub invariant-loop-host : goal.invariant-loop-host
invariant-loop-host g l =
    l.reserved.items ≡ map by_range l.keep.ranges ++ flat_map (reserved_on (keeps l.self) g.K.Kind.listed) (take l.host-index l.hosts)
