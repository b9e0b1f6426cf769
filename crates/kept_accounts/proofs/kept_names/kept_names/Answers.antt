use Rattle.std.proofs.Common.{not, take, arith}
use Rattle.std.specs.Prelude.{flat_map}
use Rattle.kept_accounts.specs.Keeping.{is_among}
use Rattle.kept_accounts.proofs.PickedLemmas.{picked-host, picked-hosts, picked-kept}
use Rattle.kept_accounts.proofs.kept_names.kept_names.Goals as goal

pub loop-host-preserved : goal.loop-host-preserved
loop-host-preserved g c =
    picked-host (λ row. not (is_among c.in_ok-moving.moving row.0)) g.K.Kind.listed c.args.hosts.now c.loop-host.host-index c.host-item.result _ (omega arith) c.host-item.is
    (c.in_ok-add_kept.ensures (flat_map g.K.Kind.listed (take c.loop-host.host-index c.args.hosts.now)) c.loop-host.invariant)

pub returns : goal.returns
returns g c =
    picked-kept c.args.keep.now (flat_map g.K.Kind.listed c.args.hosts.now) c.in_ok-moving.moving c.loop-host.kept c.in_ok-moving.ensures
    (picked-hosts (λ row. not (is_among c.in_ok-moving.moving row.0)) g.K.Kind.listed c.args.hosts.now c.loop-host.host-index c.loop-host.kept (omega arith) c.loop-host.invariant)
