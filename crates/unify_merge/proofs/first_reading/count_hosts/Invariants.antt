use Rattle.std.proofs.Common.{◌≡◌, ◌++◌, ℕ, List, Ok, length}
use Rattle.mtree_inv.specs.declared.entry.Entry.{Entry}
use Rattle.hosts_join.specs.declared.host.Host.{Host}
use Rattle.unify.specs.Passes.{behind, read_in}
use Rattle.unify_merge.specs.FirstReading.{AreWithinLimit, ReadsOnly, readings_from}
use Rattle.unify_merge.proofs.first_reading.count_hosts.Given as goal

-- texts: those of the hosts so far
abbrev pub invariant-loop-index : goal.invariant-loop-index
invariant-loop-index g l = record {
  texts : List (List ℕ);
  come : l.inventories ≡ behind l.initial.inventories.hosts texts;
  so_far : length texts ≡ l.index;
  within : AreWithinLimit texts;
  files : List (Host × List Entry);
  accepted : read_in l.inventories ≡ Ok files;
  read : (g.F.ReadFiles.ledger l.files).read ≡ (g.F.ReadFiles.ledger l.initial.files).read ++ readings_from 0 texts;
  only : ReadsOnly (g.F.ReadFiles.ledger l.initial.files) (g.F.ReadFiles.ledger l.files);
  calls : g.F.ReadFiles.failure l.files ≡ g.F.ReadFiles.failure l.initial.files;
}
