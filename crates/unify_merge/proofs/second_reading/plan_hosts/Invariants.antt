use Rattle.std.proofs.Common.{◌≡◌, List, true}
use Rattle.mtree_inv.specs.declared.entry.Entry.{Entry}
use Rattle.hosts_join.specs.declared.host.Host.{Host}
use Rattle.unify.specs.SecondPass.{IsFresh, IsOfSameSite, ended_in}
use Rattle.unify_merge.specs.SecondReading.{PlannedSoFar, WereRead}
use Rattle.unify_merge.proofs.second_reading.plan_hosts.Given as goal

abbrev pub invariant-loop-index : goal.invariant-loop-index
invariant-loop-index g l = record {
  clear : (g.F.ReadFiles.ledger l.files).is_clear ≡ true;
  ended : ended_in l.solved ≡ l.index;
  site : IsOfSameSite l.initial.solved l.solved;
  fresh : IsFresh l.solved;
  so_far : (read : List (Host × List Entry)) → WereRead l.initial.solved read → PlannedSoFar l.hosts l.initial.solved read l.index (g.F.ReadFiles.ledger l.initial.files) (g.F.ReadFiles.ledger l.files);
  calls : g.F.ReadFiles.failure l.files ≡ g.F.ReadFiles.failure l.initial.files;
}
