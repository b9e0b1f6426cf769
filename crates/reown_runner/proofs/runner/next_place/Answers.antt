use Rattle.std.proofs.Common.{refl, sym, ◌∙◌, ap, subst, map, None, Ok}
use Rattle.reown_plan.specs.Records.{record_of}
use Rattle.reown_plan.specs.declared.mark.PlanMark.{PlanMark}
use Rattle.reown_runner.specs.declared.runner.Place.TheVariants.{Done}
use Rattle.reown_runner.specs.Tree.{cells_of, Does}
use Rattle.reown_runner.specs.Step.{IsAdvance, IsPlaceOf, turn, marked_turn}
use Rattle.reown_runner.proofs.Turns.{turn-start_marked, advance-behind, turn-start, turn-sync_owners, turn-mark, turn-sync_mark, turn-done, advance-done, advance-failed, asked-one, at_device, kept, record_at, record-same}
use Rattle.reown_runner.proofs.OwnMarks.{none_comes, own_comes, in_turn, nothing, read_only, synced, may_sync, record_keeps, marked_keeps}
use Rattle.reown_runner.proofs.runner.next_place.Goals as goal

pub returns-in_err-sync-in-SyncOwners-clause-asked : goal.returns-in_err-sync-in-SyncOwners-clause-asked
returns-in_err-sync-in-SyncOwners-clause-asked g c = asked-one _ _ _ _ _ _ (turn-sync_owners _ _ _ _ c.in-SyncOwners.is) refl c.sync.ensures.asked

pub returns-in_ok-sync-in-SyncOwners-clause-asked : goal.returns-in_ok-sync-in-SyncOwners-clause-asked
returns-in_ok-sync-in-SyncOwners-clause-asked g c = asked-one _ _ _ _ _ _ (turn-sync_owners _ _ _ _ c.in-SyncOwners.is) refl c.sync.ensures.asked

pub returns-in_ok-sync-in-SyncOwners-clause-step : goal.returns-in_ok-sync-in-SyncOwners-clause-step
returns-in_ok-sync-in-SyncOwners-clause-step g c = advance-done _ _ _ _ _ _ (turn-sync_owners _ _ _ _ c.in-SyncOwners.is) (kept _) (c.in_ok-sync-in-SyncOwners.ensures.done c.args.plan.now)

pub returns-in_err-set_mark-in-Mark-clause-step : goal.returns-in_err-set_mark-in-Mark-clause-step
returns-in_err-set_mark-in-Mark-clause-step g c =
    at_device _ _ _ c.from_residual-in_err-set_mark-in-Mark.result c.from_residual-in_err-set_mark-in-Mark.ensures.1
    (advance-failed _ _ _ _ _ _ (turn-mark _ _ _ _ c.in-Mark.is) (kept _) c.in_err-set_mark-in-Mark.ensures.failed)

pub returns-in_err-set_mark-in-Mark-clause-asked : goal.returns-in_err-set_mark-in-Mark-clause-asked
returns-in_err-set_mark-in-Mark-clause-asked g c = asked-one _ _ _ _ _ _ (turn-mark _ _ _ _ c.in-Mark.is) refl c.set_mark.ensures.asked

pub returns-in_ok-set_mark-in-Mark-clause-asked : goal.returns-in_ok-set_mark-in-Mark-clause-asked
returns-in_ok-set_mark-in-Mark-clause-asked g c = asked-one _ _ _ _ _ _ (turn-mark _ _ _ _ c.in-Mark.is) refl c.set_mark.ensures.asked

pub returns-in_ok-set_mark-in-Mark-clause-step : goal.returns-in_ok-set_mark-in-Mark-clause-step
returns-in_ok-set_mark-in-Mark-clause-step g c = advance-done _ _ _ _ _ _ (turn-mark _ _ _ _ c.in-Mark.is) (kept _) c.in_ok-set_mark-in-Mark.ensures.done

pub returns-in_err-sync-in-SyncMark-clause-asked : goal.returns-in_err-sync-in-SyncMark-clause-asked
returns-in_err-sync-in-SyncMark-clause-asked g c = asked-one _ _ _ _ _ _ (turn-sync_mark _ _ _ _ c.in-SyncMark.is) refl c.sync-in-SyncMark.ensures.asked

pub returns-in_ok-sync-in-SyncMark-clause-asked : goal.returns-in_ok-sync-in-SyncMark-clause-asked
returns-in_ok-sync-in-SyncMark-clause-asked g c = asked-one _ _ _ _ _ _ (turn-sync_mark _ _ _ _ c.in-SyncMark.is) refl c.sync-in-SyncMark.ensures.asked

pub returns-in_ok-sync-in-SyncMark-clause-step : goal.returns-in_ok-sync-in-SyncMark-clause-step
returns-in_ok-sync-in-SyncMark-clause-step g c = advance-done _ _ _ _ _ _ (turn-sync_mark _ _ _ _ c.in-SyncMark.is) (kept _) (c.in_ok-sync-in-SyncMark.ensures.done c.args.plan.now)

pub returns-then-branch-clause-step : goal.returns-then-branch-clause-step
returns-then-branch-clause-step g c =
    let records = map record_of c.args.records.now in
    let old = g.T.Tree.known c.args.tree.now in
    let mid = g.T.Tree.known c.is_marked.new.self in
    let new = g.T.Tree.known c.look_over.new.tree in
    let plan = c.args.plan.now in
    let same = c.is_marked.ensures.same plan in
    let marked = turn-start_marked records c.args.place old.owner (cells_of plan old).mark c.in-Start.is (sym c.in_ok-is_marked-in-Start.ensures.answer ∙ c.if-branch.true) in
    advance-behind (turn records c.args.place old.owner (cells_of plan old).mark) (marked_turn 0 records mid.owner) (cells_of plan old) (cells_of plan mid) (cells_of plan new) c.look_over.result
    (marked ∙ (λ i. marked_turn 0 records (λ path. sym (same.owners.owner path) i))) same (c.look_over.ensures.step plan)

pub returns-else-branch-clause-step : goal.returns-else-branch-clause-step
returns-else-branch-clause-step g c =
    (record { operation = None; next = c.place_of.result }, turn-start _ _ _ _ c.in-Start.is (sym c.in_ok-is_marked-in-Start.ensures.answer ∙ c.if-branch.false) ∙ ap (λ n. Ok (record { operation = None; next = n })) (sym c.place_of.ensures.place), refl, c.is_marked.ensures.same c.args.plan.now)

pub returns-in-Record-clause-step : goal.returns-in-Record-clause-step
returns-in-Record-clause-step g c =
    let records = map record_of c.args.records.now in
    let fits = subst (IsPlaceOf records) c.in-Record.is c.requires in
    let same = record-same records c.args.place (g.T.Tree.known c.args.tree.now).owner (cells_of c.args.plan.now (g.T.Tree.known c.args.tree.now)).mark c.in-Record.i _ c.place_of-in-Record.result c.in-Record.is (record_at record_of c.args.records.now c.in-Record.i _ fits) c.place_of-in-Record.ensures.place in
    rw (← same) (c.move_file.ensures.step c.args.plan.now)

pub returns-in-Record-clause-asked : goal.returns-in-Record-clause-asked
returns-in-Record-clause-asked g c =
    let records = map record_of c.args.records.now in
    let fits = subst (IsPlaceOf records) c.in-Record.is c.requires in
    let same = record-same records c.args.place (g.T.Tree.known c.args.tree.now).owner (cells_of c.args.plan.now (g.T.Tree.known c.args.tree.now)).mark c.in-Record.i _ c.place_of-in-Record.result c.in-Record.is (record_at record_of c.args.records.now c.in-Record.i _ fits) c.place_of-in-Record.ensures.place in
    rw (← same) c.move_file.ensures.asked

pub returns-in-Done-clause-step : goal.returns-in-Done-clause-step
returns-in-Done-clause-step g c = (record { operation = None; next = Done }, turn-done _ _ _ _ c.in-Done.is, refl, kept _)

pub returns-in_err-sync-in-SyncOwners-clause-step : goal.returns-in_err-sync-in-SyncOwners-clause-step
returns-in_err-sync-in-SyncOwners-clause-step g c =
    at_device _ _ _ c.from_residual-in_err-sync-in-SyncOwners.result c.from_residual-in_err-sync-in-SyncOwners.ensures.1
    (advance-failed _ _ _ _ _ _ (turn-sync_owners _ _ _ _ c.in-SyncOwners.is) (kept _) (c.in_err-sync-in-SyncOwners.ensures.failed c.args.plan.now))

pub returns-in_err-sync-in-SyncMark-clause-step : goal.returns-in_err-sync-in-SyncMark-clause-step
returns-in_err-sync-in-SyncMark-clause-step g c =
    at_device _ _ _ c.from_residual-in_err-sync-in-SyncMark.result c.from_residual-in_err-sync-in-SyncMark.ensures.1
    (advance-failed _ _ _ _ _ _ (turn-sync_mark _ _ _ _ c.in-SyncMark.is) (kept _) (c.in_err-sync-in-SyncMark.ensures.failed c.args.plan.now))

pub returns-in_err-is_marked-in-Start-clause-other : goal.returns-in_err-is_marked-in-Start-clause-other
returns-in_err-is_marked-in-Start-clause-other g c = none_comes c.args.plan.now (g.T.Tree.known c.args.tree.now) (g.T.Tree.known c.is_marked.new.self) (read_only (g.T.Tree.known c.args.tree.now) (g.T.Tree.known c.is_marked.new.self) c.is_marked.ensures.same)

pub returns-else-branch-clause-other : goal.returns-else-branch-clause-other
returns-else-branch-clause-other g c = none_comes c.args.plan.now (g.T.Tree.known c.args.tree.now) (g.T.Tree.known c.is_marked.new.self) (read_only (g.T.Tree.known c.args.tree.now) (g.T.Tree.known c.is_marked.new.self) c.is_marked.ensures.same)

pub returns-then-branch-clause-other : goal.returns-then-branch-clause-other
returns-then-branch-clause-other g c =
    none_comes c.args.plan.now (g.T.Tree.known c.args.tree.now) (g.T.Tree.known c.look_over.new.tree) (in_turn (g.T.Tree.known c.args.tree.now) (g.T.Tree.known c.is_marked.new.self) (g.T.Tree.known c.look_over.new.tree) (read_only (g.T.Tree.known c.args.tree.now) (g.T.Tree.known c.is_marked.new.self) c.is_marked.ensures.same)
    (marked_keeps (g.T.Tree.known c.is_marked.new.self) (g.T.Tree.known c.look_over.new.tree) (map record_of c.args.records.now) (g.T.Tree.known c.is_marked.new.self).owner c.look_over.result (g.met.T.Tree.readable c.is_marked.new.self) c.look_over.ensures.step))

pub returns-in-Record-clause-other : goal.returns-in-Record-clause-other
returns-in-Record-clause-other g c =
    let records = map record_of c.args.records.now in
    let old = g.T.Tree.known c.args.tree.now in
    let new = g.T.Tree.known c.move_file.new.tree in
    let fits = subst (IsPlaceOf records) c.in-Record.is c.requires in
    let step : (plan : PlanMark) → IsAdvance (turn records c.args.place old.owner (cells_of plan old).mark) (λ operation. Does operation (cells_of plan old) (cells_of plan new)) c.move_file.result = λ plan.
    (let same = record-same records c.args.place old.owner (cells_of plan old).mark c.in-Record.i _ c.place_of-in-Record.result c.in-Record.is (record_at record_of c.args.records.now c.in-Record.i _ fits) c.place_of-in-Record.ensures.place in
    rw (← same) (c.move_file.ensures.step plan)) in
    none_comes c.args.plan.now old new (record_keeps old new records c.args.place c.in-Record.i c.move_file.result (g.met.T.Tree.readable c.args.tree.now) c.in-Record.is step)

pub returns-in_ok-sync-in-SyncOwners-clause-other : goal.returns-in_ok-sync-in-SyncOwners-clause-other
returns-in_ok-sync-in-SyncOwners-clause-other g c = none_comes c.args.plan.now (g.T.Tree.known c.args.tree.now) (g.T.Tree.known c.sync.new.self) (synced (g.T.Tree.known c.args.tree.now) (g.T.Tree.known c.sync.new.self) (g.met.T.Tree.readable c.args.tree.now) c.in_ok-sync-in-SyncOwners.ensures.done)

pub returns-in_err-sync-in-SyncOwners-clause-other : goal.returns-in_err-sync-in-SyncOwners-clause-other
returns-in_err-sync-in-SyncOwners-clause-other g c = none_comes c.args.plan.now (g.T.Tree.known c.args.tree.now) (g.T.Tree.known c.sync.new.self) (may_sync (g.T.Tree.known c.args.tree.now) (g.T.Tree.known c.sync.new.self) (g.met.T.Tree.readable c.args.tree.now) c.in_err-sync-in-SyncOwners.ensures.failed)

pub returns-in_ok-sync-in-SyncMark-clause-other : goal.returns-in_ok-sync-in-SyncMark-clause-other
returns-in_ok-sync-in-SyncMark-clause-other g c = none_comes c.args.plan.now (g.T.Tree.known c.args.tree.now) (g.T.Tree.known c.sync-in-SyncMark.new.self) (synced (g.T.Tree.known c.args.tree.now) (g.T.Tree.known c.sync-in-SyncMark.new.self) (g.met.T.Tree.readable c.args.tree.now) c.in_ok-sync-in-SyncMark.ensures.done)

pub returns-in_err-sync-in-SyncMark-clause-other : goal.returns-in_err-sync-in-SyncMark-clause-other
returns-in_err-sync-in-SyncMark-clause-other g c = none_comes c.args.plan.now (g.T.Tree.known c.args.tree.now) (g.T.Tree.known c.sync-in-SyncMark.new.self) (may_sync (g.T.Tree.known c.args.tree.now) (g.T.Tree.known c.sync-in-SyncMark.new.self) (g.met.T.Tree.readable c.args.tree.now) c.in_err-sync-in-SyncMark.ensures.failed)

pub returns-in_ok-set_mark-in-Mark-clause-other : goal.returns-in_ok-set_mark-in-Mark-clause-other
returns-in_ok-set_mark-in-Mark-clause-other g c = own_comes c.args.plan.now (g.T.Tree.known c.args.tree.now) (g.T.Tree.known c.set_mark.new.self) c.set_mark.ensures.no_other

pub returns-in_err-set_mark-in-Mark-clause-other : goal.returns-in_err-set_mark-in-Mark-clause-other
returns-in_err-set_mark-in-Mark-clause-other g c = own_comes c.args.plan.now (g.T.Tree.known c.args.tree.now) (g.T.Tree.known c.set_mark.new.self) c.set_mark.ensures.no_other

pub returns-in-Done-clause-other : goal.returns-in-Done-clause-other
returns-in-Done-clause-other g c = none_comes c.args.plan.now (g.T.Tree.known c.args.tree.now) (g.T.Tree.known c.args.tree.now) (nothing (g.T.Tree.known c.args.tree.now))
