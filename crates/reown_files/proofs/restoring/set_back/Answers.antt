use Rattle.std.proofs.Common.{◌∙◌, ◌∷◌, ◌++◌, [], ℕ, Bool, true, List, Option, refl, sym, ap, subst}
use Rattle.std.specs.Result.{is_ok}
use Rattle.reown_plan.specs.Records.{record_of}
use Rattle.reown_files.specs.Calls.{Called, SetMode, Kept, LostMode}
use Rattle.reown_files.specs.Failed.{Last, FailsOn}
use Rattle.reown_files.specs.Lawful.{all_asked, is_lawful, is_mode_kept}
use Rattle.reown_files.proofs.Failures.{failed_with}
use Rattle.reown_files.proofs.Laws.{on_ok_any, on_ok_as, one_more_asked, one_more_found, mode_kept_now, lawful_none, lawful_found}
use Rattle.reown_files.proofs.restoring.set_back.Goals as goal

pub returns-in_default-clause-asked : goal.returns-in_default-clause-asked
returns-in_default-clause-asked g c = λ before h.
    let r = record_of c.args.planned.now in
    ap (all_asked (before ++ r ∷ [])) c.in_ok-lost.ensures.told ∙ one_more_asked c.args.plan.now (g.D.Disk.calls c.args.disk.now) before r h c.in_ok-lost.lost

pub returns-in_default-clause-lawful : goal.returns-in_default-clause-lawful
returns-in_default-clause-lawful g c = λ records given read unchanged h.
    let r = record_of c.args.planned.now in
    let old = g.D.Disk.calls c.args.disk.now in
    ap (is_lawful c.args.plan.now records) (c.in_ok-lost.ensures.told ∙ ap (λ (m : Option ℕ). LostMode c.args.plan.now r.path r.after m ∷ old) c.in_default.is)
    ∙ lawful_none c.args.plan.now records old read unchanged h r.path r.after given

pub returns-clause-asked : goal.returns-clause-asked
returns-clause-asked g c = on_ok_any c.keep.result (λ before h.
    let r = record_of c.args.planned.now in
    let mode = c.in-Some.mode in
    let set = is_ok c.set_mode.result in
    let kept = is_ok c.keep.result in
    let all = c.keep.ensures ∙ ap (λ (cs : List Called). Kept r.path r.after kept ∷ cs) (c.set_mode.ensures ∙ ap (λ (cs : List Called). SetMode r.path r.after mode set ∷ cs) c.in_ok-lost.ensures.told) in
    ap (all_asked (before ++ r ∷ [])) all
    ∙ one_more_found c.args.plan.now (g.D.Disk.calls c.args.disk.now) before r h c.in_ok-lost.lost mode set kept)

pub returns-clause-kept : goal.returns-clause-kept
returns-clause-kept g c = on_ok_as c.keep.result (λ done r h.
    let planned = record_of c.args.planned.now in
    let old = g.D.Disk.calls c.args.disk.now in
    let set = is_ok c.set_mode.result in
    let mode = c.in-Some.mode in
    let all =
    c.keep.ensures ∙ ap (λ (kept : Bool). Kept planned.path planned.after kept ∷ g.D.Disk.calls c.set_mode.new.self) done
    ∙ ap (λ (cs : List Called). Kept planned.path planned.after true ∷ cs) (c.set_mode.ensures ∙ ap (λ (cs : List Called). SetMode planned.path planned.after mode set ∷ cs) c.in_ok-lost.ensures.told) in
    ap (λ (cs : List Called). is_mode_kept cs r) all
    ∙ mode_kept_now planned.path planned.after planned.after mode set (LostMode c.args.plan.now planned.path planned.after c.in_ok-lost.lost ∷ old) r h)

pub returns-clause-lawful : goal.returns-clause-lawful
returns-clause-lawful g c = λ records given read unchanged h.
    let r = record_of c.args.planned.now in
    let old = g.D.Disk.calls c.args.disk.now in
    let mode = c.in-Some.mode in
    let set = is_ok c.set_mode.result in
    let kept = is_ok c.keep.result in
    let told = c.in_ok-lost.ensures.told ∙ ap (λ (m : Option ℕ). LostMode c.args.plan.now r.path r.after m ∷ old) c.in-Some.is in
    let all = c.keep.ensures ∙ ap (λ (cs : List Called). Kept r.path r.after kept ∷ cs) (c.set_mode.ensures ∙ ap (λ (cs : List Called). SetMode r.path r.after mode set ∷ cs) told) in
    ap (is_lawful c.args.plan.now records) all ∙ lawful_found c.args.plan.now records old read unchanged h r.path r.after given mode set

pub returns-in_err-set_mode-clause-lawful : goal.returns-in_err-set_mode-clause-lawful
returns-in_err-set_mode-clause-lawful g c = λ records given read unchanged h.
    let r = record_of c.args.planned.now in
    let old = g.D.Disk.calls c.args.disk.now in
    let mode = c.in-Some.mode in
    let set = is_ok c.set_mode.result in
    let told = c.in_ok-lost.ensures.told ∙ ap (λ (m : Option ℕ). LostMode c.args.plan.now r.path r.after m ∷ old) c.in-Some.is in
    ap (is_lawful c.args.plan.now records) (c.set_mode.ensures ∙ ap (λ (cs : List Called). SetMode r.path r.after mode set ∷ cs) told) ∙ lawful_found c.args.plan.now records old read unchanged h r.path r.after given mode set

pub returns-clause-failed : goal.returns-clause-failed
returns-clause-failed g c =
    let path = (record_of c.args.planned.now).path in
    failed_with (λ trouble. Last (FailsOn path trouble) (g.D.Disk.calls c.keep.new.self)) c.keep.result (λ trouble e. subst (Last (FailsOn path trouble)) (sym c.keep.ensures) (refl, e))

pub returns-in_err-set_mode-clause-failed : goal.returns-in_err-set_mode-clause-failed
returns-in_err-set_mode-clause-failed g c =
    let path = (record_of c.args.planned.now).path in
    failed_with (λ trouble. Last (FailsOn path trouble) (g.D.Disk.calls c.set_mode.new.self)) c.from_residual-in_err-set_mode.result
    (λ trouble e. subst (Last (FailsOn path trouble)) (sym c.set_mode.ensures) (refl, ap is_ok c.in_err-set_mode.was))
