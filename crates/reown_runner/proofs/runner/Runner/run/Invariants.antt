use Rattle.std.proofs.Common.{◌≡◌, ◌+◌, ◌≤◌, max, length, replicate, ℕ, List, Option, None}
use Rattle.reown_plan.specs.declared.plan.Owner.{Owner}
use Rattle.reown_runner.specs.Tree.{cells_of}
use Rattle.reown_runner.specs.Step.{advances_left, operations_left}
use Rattle.reown_runner.specs.Run.{IsRun, Advances, host_at}
use Rattle.reown_runner.specs.State.{State, StandsFor}
use Rattle.reown_runner.specs.Safe.{IsSafeInStep}
use Rattle.reown_runner.proofs.runner.Runner.run.Given as goal

abbrev pub invariant-steps : goal.invariant-steps
invariant-steps g l =
    let records = l.fn.self.records in
    let place = l.fn.self.place in
    let old = g.T.Tree.known l.fn.tree in
    let now = g.T.Tree.known l.tree in
    let plan = l.fn.self.mark in
    record {
      same_mark : l.self.mark ≡ plan;
      same : l.self.records ≡ records;
      counted : now.faults ≡ old.faults;
      follows : g.T.Tree.follows l.fn.tree l.tree;
      spent : now.asked + operations_left records l.self.place ≤ old.asked + operations_left records place;
      kept : (inventory : List ℕ → Option Owner) → IsSafeInStep inventory records place (cells_of plan old) → IsSafeInStep inventory records l.self.place (cells_of plan now);
      run : (s : State) → StandsFor plan old s → (n : ℕ) × (t : State) × StandsFor plan now t × IsRun records (host_at place old s) (replicate n Advances) None (host_at l.self.place now t) × (n + max 1 (advances_left records l.self.place) ≤ length records + 4);
    }

abbrev pub decreases-steps : goal.decreases-steps
decreases-steps g l = advances_left l.fn.self.records l.self.place
