use Rattle.std.proofs.Common.{not, take}
use Rattle.std.specs.Prelude.{flat_map}
use Rattle.kept_accounts.specs.Keeping.{is_among}
use Rattle.kept_accounts.specs.Picked.{ArePicked}
use Rattle.kept_accounts.proofs.kept_names.kept_names.Given as goal

abbrev pub invariant-loop-host : goal.invariant-loop-host
invariant-loop-host g l = ArePicked (λ row. not (is_among l.moving row.0)) (flat_map g.K.Kind.listed (take l.host-index l.hosts)) l.kept
