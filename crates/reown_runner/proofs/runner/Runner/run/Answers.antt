use Rattle.std.proofs.Common.{◌+◌, ◌-◌, ◌≤◌, length, refl, sym, ◌∙◌, subst, arith, Ok, Err}
use Rattle.reown_runner.specs.Tree.{cells_of}
use Rattle.reown_runner.specs.Step.{advances_left, operations_left}
use Rattle.reown_runner.specs.Safe.{IsSafeInStep}
use Rattle.reown_runner.specs.Run.{host_at}
use Rattle.reown_runner.specs.State.{StandsFor}
use Rattle.reown_runner.proofs.Histories.{safe_as}
use Rattle.reown_runner.proofs.Runs.{goes_on}
use Rattle.reown_runner.proofs.Count.{one_end, one_more_is_left, works_on, done_at, most_left, not_counted}
use Rattle.reown_runner.proofs.Finishing.{fresh_safe, done_reads}
use Rattle.reown_runner.proofs.runner.Runner.run.Goals as goal

pub returns-in-Ok-Done-clause-safe : goal.returns-in-Ok-Done-clause-safe
returns-in-Ok-Done-clause-safe g c = λ inventory s.
    let same = c.steps.invariant.same in
    safe_as inventory c.steps.self.records c.args.self.now.records c.steps.self.mark c.args.self.now.mark same c.steps.invariant.same_mark c.advance.new.self.place (g.T.Tree.known c.advance.new.tree)
    (c.advance.ensures.safe inventory (safe_as inventory c.args.self.now.records c.steps.self.records c.args.self.now.mark c.steps.self.mark (sym same) (sym c.steps.invariant.same_mark) c.steps.self.place (g.T.Tree.known c.steps.tree) (c.steps.invariant.kept inventory s)))

pub returns-in-Err-clause-safe : goal.returns-in-Err-clause-safe
returns-in-Err-clause-safe g c = λ inventory s.
    let same = c.steps.invariant.same in
    safe_as inventory c.steps.self.records c.args.self.now.records c.steps.self.mark c.args.self.now.mark same c.steps.invariant.same_mark c.advance.new.self.place (g.T.Tree.known c.advance.new.tree)
    (c.advance.ensures.safe inventory (safe_as inventory c.args.self.now.records c.steps.self.records c.args.self.now.mark c.steps.self.mark (sym same) (sym c.steps.invariant.same_mark) c.steps.self.place (g.T.Tree.known c.steps.tree) (c.steps.invariant.kept inventory s)))

pub returns-in-Err-clause-device : goal.returns-in-Err-clause-device
returns-in-Err-clause-device g c = λ inventory s.
    let same = c.steps.invariant.same in
    c.in-Err.ensures.device inventory (safe_as inventory c.args.self.now.records c.steps.self.records c.args.self.now.mark c.steps.self.mark (sym same) (sym c.steps.invariant.same_mark) c.steps.self.place (g.T.Tree.known c.steps.tree) (c.steps.invariant.kept inventory s))

pub returns-in-Ok-Done-clause-stands : goal.returns-in-Ok-Done-clause-stands
returns-in-Ok-Done-clause-stands g c = λ s stands.
    let was = c.steps.invariant.run s stands in
    let more = c.in-Ok-Done.ensures.stands was.1 (subst (λ m. StandsFor m (g.T.Tree.known c.steps.tree) was.1) (sym c.steps.invariant.same_mark) was.2) in
    (was.0 + 1, more.0, subst (λ m. StandsFor m (g.T.Tree.known c.advance.new.tree) more.0) c.steps.invariant.same_mark more.1, goes_on c.args.self.now.records c.steps.self.records c.steps.invariant.same (host_at c.args.self.now.place (g.T.Tree.known c.args.tree.now) s) was.0 (host_at c.steps.self.place (g.T.Tree.known c.steps.tree) was.1) (host_at c.advance.new.self.place (g.T.Tree.known c.advance.new.tree) more.0) (Ok c.in-Ok-Done.field-0) was.3 more.2, one_end was.0 (length c.args.self.now.records + 4) (advances_left c.args.self.now.records c.steps.self.place) was.4)

pub returns-in-Err-clause-stands : goal.returns-in-Err-clause-stands
returns-in-Err-clause-stands g c = λ s stands.
    let was = c.steps.invariant.run s stands in
    let more = c.in-Err.ensures.stands was.1 (subst (λ m. StandsFor m (g.T.Tree.known c.steps.tree) was.1) (sym c.steps.invariant.same_mark) was.2) in
    (was.0 + 1, more.0, subst (λ m. StandsFor m (g.T.Tree.known c.advance.new.tree) more.0) c.steps.invariant.same_mark more.1, goes_on c.args.self.now.records c.steps.self.records c.steps.invariant.same (host_at c.args.self.now.place (g.T.Tree.known c.args.tree.now) s) was.0 (host_at c.steps.self.place (g.T.Tree.known c.steps.tree) was.1) (host_at c.advance.new.self.place (g.T.Tree.known c.advance.new.tree) more.0) (Err c.in-Err.fault) was.3 more.2, one_end was.0 (length c.args.self.now.records + 4) (advances_left c.args.self.now.records c.steps.self.place) was.4)

pub steps-preserved : goal.steps-preserved
steps-preserved g c =
    let same = c.steps.invariant.same in
    let old = c.steps.tree in
    record {
      same_mark = c.advance.ensures.mark ∙ c.steps.invariant.same_mark;
      same = c.advance.ensures.records ∙ same;
      counted = c.in-Ok-Working.ensures.faults ∙ c.steps.invariant.counted;
      follows = g.met.T.Tree.goes_on c.args.tree.now old c.advance.new.tree c.steps.invariant.follows c.advance.ensures.follows;
      spent =
          (let spends = subst (λ cs. (g.T.Tree.known c.advance.new.tree).asked + operations_left cs c.advance.new.self.place ≤ (g.T.Tree.known old).asked + operations_left cs c.steps.self.place) same c.in-Ok-Working.ensures.spends in
          let before = c.steps.invariant.spent in omega (arith, spends, before));
      kept = λ inventory s.
          safe_as inventory c.steps.self.records c.args.self.now.records c.steps.self.mark c.args.self.now.mark same c.steps.invariant.same_mark c.advance.new.self.place (g.T.Tree.known c.advance.new.tree)
          (c.advance.ensures.safe inventory (safe_as inventory c.args.self.now.records c.steps.self.records c.args.self.now.mark c.steps.self.mark (sym same) (sym c.steps.invariant.same_mark) c.steps.self.place (g.T.Tree.known old) (c.steps.invariant.kept inventory s)));
      run = λ s stands.
          let was = c.steps.invariant.run s stands in
          let more = c.in-Ok-Working.ensures.stands was.1 (subst (λ m. StandsFor m (g.T.Tree.known old) was.1) (sym c.steps.invariant.same_mark) was.2) in (
            was.0 + 1,
            more.0,
            subst (λ m. StandsFor m (g.T.Tree.known c.advance.new.tree) more.0) c.steps.invariant.same_mark more.1,
            goes_on c.args.self.now.records c.steps.self.records same (host_at c.args.self.now.place (g.T.Tree.known c.args.tree.now) s) was.0 (host_at c.steps.self.place (g.T.Tree.known old) was.1) (host_at c.advance.new.self.place (g.T.Tree.known c.advance.new.tree) more.0) (Ok c.in-Ok-Working.field-0) was.3 more.2,
            one_more_is_left was.0 (length c.args.self.now.records + 4) (advances_left c.args.self.now.records c.steps.self.place) (advances_left c.args.self.now.records c.advance.new.self.place) was.4
                (works_on c.args.self.now.records c.advance.new.self.place (sym c.in-Ok-Working.field-0-is ∙ c.in-Ok-Working.ensures.progress))
                (subst (λ rs. advances_left rs c.advance.new.self.place ≤ advances_left rs c.steps.self.place - 1) same c.in-Ok-Working.ensures.nearer),
          );
    }

pub steps-init : goal.steps-init
steps-init g c =
    record {
      same_mark = refl;
      same = refl;
      counted = refl;
      follows = g.met.T.Tree.rests c.args.tree.now;
      spent = omega arith;
      kept = λ inventory s. s;
      run = λ s stands. (0, s, stands, (refl, refl), most_left c.args.self.now.records c.args.self.now.place);
    }

pub returns-in-Err-clause-finishes : goal.returns-in-Err-clause-finishes
returns-in-Err-clause-finishes g c = λ inventory s same.
    absurd (not_counted (g.T.Tree.known c.args.tree.now).faults (g.T.Tree.known c.steps.tree).faults (g.T.Tree.known c.advance.new.tree).faults c.in-Err.fault
    (returns-in-Err-clause-device g c inventory s) c.steps.invariant.counted c.in-Err.ensures.faults same)

pub returns-in-Ok-Done-clause-reads : goal.returns-in-Ok-Done-clause-reads
returns-in-Ok-Done-clause-reads g c = λ inventory fresh old start.
    let records = c.args.self.now.records in
    let before = g.T.Tree.known c.args.tree.now in
    let after = g.T.Tree.known c.advance.new.tree in
    let plan = c.args.self.now.mark in
    let begins = subst (λ p. IsSafeInStep inventory records p (cells_of plan before)) (sym start) (fresh_safe inventory records (cells_of plan before) fresh old) in
    let ends = subst (λ p. IsSafeInStep inventory records p (cells_of plan after)) (done_at c.advance.new.self.place (sym c.in-Ok-Done.field-0-is ∙ c.in-Ok-Done.ensures.progress)) (returns-in-Ok-Done-clause-safe g c inventory begins) in
    done_reads inventory records (cells_of plan after) (g.met.T.Tree.readable c.advance.new.tree plan) ends
