use Rattle.std.proofs.Common.{◌≡◌, length}
use Rattle.assignment.specs.Solving.{HasNoZero}
use Rattle.assignment.specs.Lazy.{IsSettled}
use Rattle.assignment.proofs.duals.Duals.settle.Given as goal

abbrev pub invariant-loop-at : goal.invariant-loop-at
invariant-loop-at l = record {
  settled : IsSettled l.fn.self l.self l.pairs l.tree l.now l.at;
  long : length l.self.y.items ≡ length l.fn.self.y.items;
  positive : HasNoZero l.self;
}
