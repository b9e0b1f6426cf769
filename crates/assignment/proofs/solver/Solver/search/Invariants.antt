use Rattle.std.proofs.Common.{◌≡◌, ◌-◌, ◌≤◌, length}
use Rattle.std.specs.BinaryHeap.{heap_items}
use Rattle.assignment.specs.Lazy.{IsLazy, IsExit, HasEdges}
use Rattle.assignment.specs.Solving.{root_of}
use Rattle.assignment.proofs.solver.Solver.search.Given as goal

abbrev pub invariant-turns : goal.invariant-turns
invariant-turns l = record {
  rows : l.self.rows.now ≡ l.fn.self.rows.now;
  root : root_of l.tree ≡ l.fn.root;
  position : length l.tree.position.items ≡ length l.fn.tree.position.items;
  searching : IsLazy l.self l.tree l.now;
  exit : IsExit l.self l.tree l.exit;
  later : l.now ≤ l.exit.level;
  edges : HasEdges l.self l.tree l.now l.exit.level (heap_items l.queue.heap) (length l.tree.names.items);
}

abbrev pub decreases-turns : goal.decreases-turns
decreases-turns l = length l.self.rows.now.rows - length l.tree.names.items
