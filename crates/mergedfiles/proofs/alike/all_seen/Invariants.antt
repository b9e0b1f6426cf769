use Rattle.std.proofs.Common.{◌≡◌, length, take}
use Rattle.mergedfiles.specs.Alike.{CoversHosts}
use Rattle.mergedfiles.proofs.alike.all_seen.Given as goal

abbrev pub invariant-loop-index : goal.invariant-loop-index
invariant-loop-index l = record {
  len : length l.seen.items ≡ length l.site.users.names;
  covered : CoversHosts l.site.users.names l.seen.items (take l.index l.hosts);
}
