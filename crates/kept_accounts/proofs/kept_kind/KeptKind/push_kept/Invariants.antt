use Rattle.std.proofs.Common.{◌≡◌, ◌++◌, take, map}
use Rattle.std.specs.Prelude.{filter}
use Rattle.kept_accounts.specs.Keeping.{keeps}
use Rattle.kept_accounts.specs.Reserving.{by_name}
use Rattle.kept_accounts.proofs.kept_kind.KeptKind.push_kept.Given as goal

abbrev pub invariant-loop-place : goal.invariant-loop-place
invariant-loop-place g l =
    l.reserved.items ≡ l.initial.reserved.items ++ map (by_name l.host) (filter (λ row. keeps l.self row.0) (take l.place (g.K.Kind.listed l.host)))
