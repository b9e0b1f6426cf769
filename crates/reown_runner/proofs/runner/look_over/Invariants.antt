use Rattle.std.proofs.Common.{◌≡◌, map, drop}
use Rattle.reown_plan.specs.Records.{record_of}
use Rattle.reown_runner.specs.Tree.{ForEachPlan, Same}
use Rattle.reown_runner.specs.Step.{marked_turn}
use Rattle.reown_runner.proofs.runner.look_over.Given as goal

abbrev pub invariant-loop-i : goal.invariant-loop-i
invariant-loop-i g l =
    let old = g.T.Tree.known l.fn.tree in
    let now = g.T.Tree.known l.tree in
    record {
      passed : marked_turn 0 (map record_of l.fn.records) old.owner ≡ marked_turn l.i (map record_of (drop l.i l.fn.records)) old.owner;
      same : ForEachPlan Same old now;
      counted : now.faults ≡ old.faults;
      asked : now.asked ≡ old.asked;
      follows : g.T.Tree.follows l.fn.tree l.tree;
    }
