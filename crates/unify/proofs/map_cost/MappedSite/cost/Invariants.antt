use Rattle.std.proofs.Common.{◌≡◌, List, Ok}
use Rattle.mtree_inv.specs.declared.entry.Entry.{Entry}
use Rattle.hosts_join.specs.declared.host.Host.{Host}
use Rattle.unify.specs.Passes.{read_in}
use Rattle.unify.proofs.Ended.{cost_before}
use Rattle.unify.proofs.map_cost.MappedSite.cost.Given as goal

abbrev pub invariant-loop-index : goal.invariant-loop-index
invariant-loop-index l = (read : List (Host × List Entry)) → read_in l.self.inventories ≡ Ok read → l.cost ≡ cost_before l.self.names read l.index
