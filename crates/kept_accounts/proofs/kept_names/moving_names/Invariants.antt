use Rattle.std.proofs.Common.{not, take}
use Rattle.std.specs.Prelude.{flat_map}
use Rattle.kept_accounts.specs.Picked.{ArePicked, lets_stay}
use Rattle.kept_accounts.proofs.kept_names.moving_names.Given as goal

abbrev pub invariant-loop-host : goal.invariant-loop-host
invariant-loop-host g l = ArePicked (λ row. not (lets_stay l.keep row)) (flat_map g.K.Kind.listed (take l.host-index l.hosts)) l.moving
