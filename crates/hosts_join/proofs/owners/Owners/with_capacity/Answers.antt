use Rattle.std.proofs.Common.{arith}
use Rattle.hosts_join.specs.HostOwners.{place_in}
use Rattle.hosts_join.proofs.OwnerTables.{none-more}
use Rattle.hosts_join.proofs.owners.Owners.with_capacity.Goals as goal

pub loop-host-preserved : goal.loop-host-preserved
loop-host-preserved c = record {
  many = omega (arith, c.in_ok-push.ensures.len, c.push.new.self.ok.0, c.loop-host.tables.ok.0, c.loop-host.invariant.many);
  none = rw c.in_ok-push.ensures.items (none-more place_in c.loop-host.tables.items c.in_ok-with_capacity.field-0 c.loop-host.invariant.none c.in_ok-with_capacity.ensures);
}
