use Rattle.std.proofs.Common.{◌∙◌, ◌∷◌, [], List, Some, ap, refl}
use Rattle.std.specs.Result.{is_ok}
use Rattle.reown_files.specs.Calls.{Called, Gave, SetMode}
use Rattle.reown_files.specs.Failed.{FailsToGive}
use Rattle.reown_files.specs.Lawful.{is_lawful}
use Rattle.reown_files.proofs.Failures.{failed_as, asked_once}
use Rattle.reown_files.proofs.Laws.{lawful_failed, lawful_left, lawful_set_back, one_call, one_more_call}
use Rattle.reown_files.proofs.giving.give_file.Goals as goal

pub returns-in-Err-clause-lawful : goal.returns-in-Err-clause-lawful
returns-in-Err-clause-lawful g c = λ mark records planned begun h.
    ap (is_lawful mark records) c.in-Err.ensures.failed ∙ lawful_failed mark records (g.D.Disk.calls c.args.disk.now) c.args.path.now c.args.before c.args.after planned begun h

pub returns-then-modes-clause-lawful : goal.returns-then-modes-clause-lawful
returns-then-modes-clause-lawful g c = λ mark records planned begun h.
    ap (is_lawful mark records) c.in-Ok.ensures.gave ∙ lawful_left mark records (g.D.Disk.calls c.args.disk.now) c.args.path.now c.args.before c.args.after planned begun h c.in-Ok.modes c.if-modes.true

pub returns-else-modes-clause-lawful : goal.returns-else-modes-clause-lawful
returns-else-modes-clause-lawful g c = λ mark records planned begun h.
    ap (is_lawful mark records) (c.set_mode-told.ensures ∙ ap (λ (cs : List Called). SetMode c.args.path.now c.args.after c.in-Ok.modes.before (is_ok c.set_mode-told.result) ∷ cs) c.in-Ok.ensures.gave)
    ∙ lawful_set_back mark records (g.D.Disk.calls c.args.disk.now) c.args.path.now c.args.before c.args.after planned begun h c.in-Ok.modes (is_ok c.set_mode-told.result)

pub returns-in-Err-clause-grows : goal.returns-in-Err-clause-grows
returns-in-Err-clause-grows g c = one_call (g.D.Disk.calls c.args.disk.now) (g.D.Disk.calls c.give.new.self) _ c.in-Err.ensures.failed

pub returns-then-modes-clause-grows : goal.returns-then-modes-clause-grows
returns-then-modes-clause-grows g c = one_call (g.D.Disk.calls c.args.disk.now) (g.D.Disk.calls c.give.new.self) _ c.in-Ok.ensures.gave

pub returns-else-modes-clause-grows : goal.returns-else-modes-clause-grows
returns-else-modes-clause-grows g c =
    let old = g.D.Disk.calls c.args.disk.now in
    let mid = g.D.Disk.calls c.give.new.self in
    one_more_call old mid (g.D.Disk.calls c.set_mode-told.new.self) _ (one_call old mid _ c.in-Ok.ensures.gave) c.set_mode-told.ensures

pub returns-in-Err-clause-failed : goal.returns-in-Err-clause-failed
returns-in-Err-clause-failed g c =
    asked_once (FailsToGive c.args.path.now c.args.after) (g.D.Disk.calls c.args.disk.now) (g.D.Disk.calls c.give.new.self) _ c.in-Err.ensures.failed (refl, refl, refl)

pub returns-else-modes-clause-failed : goal.returns-else-modes-clause-failed
returns-else-modes-clause-failed g c = failed_as c.set_mode-told.result (λ e.
    let set = SetMode c.args.path.now c.args.after c.in-Ok.modes.before (is_ok c.set_mode-told.result) in
    (Gave c.args.path.now c.args.before c.args.after (Some c.in-Ok.modes) ∷ [], set, c.set_mode-told.ensures ∙ ap (λ (cs : List Called). set ∷ cs) c.in-Ok.ensures.gave, (refl, refl, e)))
