use Rattle.std.proofs.Common.{◌≡◌, ◌++◌, ℕ, List, length, Ok}
use Rattle.idtext.specs.First.{each}
use Rattle.mtree_inv.specs.declared.entry.Entry.{Entry}
use Rattle.hosts_join.specs.declared.host.Host.{Host}
use Rattle.site_tables.specs.Loading.{loaded_from}
use Rattle.unify_merge.specs.FirstReading.{AreWithinLimit, ReadsOnly, readings_from}
use Rattle.site_tables.specs.Survey.{listed_of, unowned_over}
use Rattle.unify_merge.proofs.surveying.add_hosts.Given as goal

-- texts: those of the hosts so far
abbrev pub invariant-loop-index : goal.invariant-loop-index
invariant-loop-index g l = record {
  texts : List (List ℕ);
  one_each : length texts ≡ l.index;
  within : AreWithinLimit texts;
  read : (g.F.ReadFiles.ledger l.files).read ≡ (g.F.ReadFiles.ledger l.initial.files).read ++ readings_from 0 texts;
  listed : List (Host × List Entry);
  are_listed : each listed_of (loaded_from l.hosts texts) ≡ Ok listed;
  numbers : l.found ≡ unowned_over l.initial.found listed;
  only : ReadsOnly (g.F.ReadFiles.ledger l.initial.files) (g.F.ReadFiles.ledger l.files);
  calls : g.F.ReadFiles.failure l.files ≡ g.F.ReadFiles.failure l.initial.files;
}
