use Rattle.std.proofs.Common.{◌≡◌, List, Ok}
use Rattle.mtree_inv.specs.declared.entry.Entry.{Entry}
use Rattle.hosts_join.specs.declared.host.Host.{Host}
use Rattle.ownership.specs.Counts as counters
use Rattle.ownership.specs.Counts.{IsMadeFor}
use Rattle.unify.specs.Passes.{read_in}
use Rattle.unify.proofs.BetweenPasses.{files_before}
use Rattle.unify.proofs.joined_site.counts_of.Given as goal

abbrev pub invariant-loop-index : goal.invariant-loop-index
invariant-loop-index l = record {
  made : IsMadeFor l.site l.counting;
  counted : (read : List (Host × List Entry)) → read_in l.inventories ≡ Ok read → counters.StandsFor l.site l.counting (files_before read l.index);
}
