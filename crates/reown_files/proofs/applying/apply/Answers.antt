use Rattle.std.proofs.Common.{sym, subst}
use Rattle.std.proofs.lemmas.Result.{on_ok_weaker}
use Rattle.reown_plan.specs.Mark.{mark_of}
use Rattle.reown_runner.specs.declared.runner.Place.{Place}
use Rattle.reown_runner.specs.RunnerData.{RunnerData}
use Rattle.reown_runner.specs.Tree.{cells_of}
use Rattle.reown_runner.specs.Safe.{IsSafeInStep}
use Rattle.reown_runner.specs.Halfway.{planned_in}
use Rattle.reown_files.specs.Real.{known_real}
use Rattle.reown_files.proofs.applying.apply.Goals as goal

pub returns-clause-safe : goal.returns-clause-safe
returns-clause-safe g c =
    let records = c.args.plan.now.records in
    let from = subst (λ (w : RunnerData). IsSafeInStep (planned_in records) w.records w.place (cells_of w.mark (known_real c.args.tree.now))) (sym c.new.ensures) c.requires in
    let after = subst (λ (w : RunnerData). IsSafeInStep (planned_in records) w.records c.run-done.new.self.place (cells_of w.mark (known_real c.run-done.new.tree))) c.new.ensures (c.run-done.ensures.safe (planned_in records) from) in
    after.safe

pub returns-clause-device : goal.returns-clause-device
returns-clause-device g c =
    let records = c.args.plan.now.records in
    let from = subst (λ (w : RunnerData). IsSafeInStep (planned_in records) w.records w.place (cells_of w.mark (known_real c.args.tree.now))) (sym c.new.ensures) c.requires in
    c.run-done.ensures.device (planned_in records) from

pub returns-clause-finishes : goal.returns-clause-finishes
returns-clause-finishes g c =
    let records = c.args.plan.now.records in
    let from = subst (λ (w : RunnerData). IsSafeInStep (planned_in records) w.records w.place (cells_of w.mark (known_real c.args.tree.now))) (sym c.new.ensures) c.requires in
    c.run-done.ensures.finishes (planned_in records) from

pub returns-clause-done : goal.returns-clause-done
returns-clause-done g c =
    let records = c.args.plan.now.records in
    let from = subst (λ (w : RunnerData). IsSafeInStep (planned_in records) w.records w.place (cells_of w.mark (known_real c.args.tree.now))) (sym c.new.ensures) c.requires in
    let after = subst (λ (w : RunnerData). IsSafeInStep (planned_in records) w.records c.run-done.new.self.place (cells_of w.mark (known_real c.run-done.new.tree))) c.new.ensures (c.run-done.ensures.safe (planned_in records) from) in
    let mark = mark_of c.args.plan.now in
    on_ok_weaker c.run-done.result
    (λ is. c.done_means_done.ensures.trees (planned_in records) mark records (known_real c.run-done.new.tree) (subst (λ (p : Place). IsSafeInStep (planned_in records) records p (cells_of mark (known_real c.run-done.new.tree))) is after)) c.run-done.ensures.done
