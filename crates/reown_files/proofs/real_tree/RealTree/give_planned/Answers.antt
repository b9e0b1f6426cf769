use Rattle.std.proofs.Common.{◌≡◌, ◌∙◌, ap, true, false, cond, not, ◌&&◌, ◌||◌, map, Bool, List, Some, Result, Ok, Err, OnErr, sym, subst}
use Rattle.std.specs.Result.{is_ok, is_err}
use Rattle.reown_plan.specs.PlanData.{PlanRecord}
use Rattle.reown_plan.specs.Records.{record_of}
use Rattle.reown_runner.specs.Memory.{Mem}
use Rattle.reown_files.specs.Calls.{Called}
use Rattle.reown_files.specs.Failed.{AskedLast, FailsToGive}
use Rattle.reown_files.specs.Real.{RealData}
use Rattle.reown_files.specs.Lawful.{is_planned, no_mode_failed}
use Rattle.reown_files.specs.Replay.{replay, with_owner}
use Rattle.reown_files.proofs.Replays.{done_of, same_replay, written_replay}
use Rattle.reown_files.proofs.real_tree.RealTree.give_planned.Goals as goal

-- a file that has its owner and whose mode did not fail to be set
set_too : {T E : Type 0} (told : Result T E) (before : Bool) → is_err told ≡ false → before ≡ true → ((not true || is_ok told) && before) ≡ true
set_too (Ok x) before e h = h
set_too (Err x) before e h = absurd (let k : true ≡ false = e in cc)

pub invariant_of-self : goal.invariant_of-self
invariant_of-self g c =
    let records = map record_of c.self.inside.records.now in
    let old = g.D.Disk.calls c.self.inside.disk in
    let new = g.D.Disk.calls c.give_file-change.new.disk in
    let same : records ≡ c.args.self.now.records = ap (λ (r : RealData). r.records) c.self.view_is in
    let is = c.set_owner.ensures.written.2.2 in
    let was : c.self.inside.is_stopped ≡ false = ap (λ (r : RealData). r.is_stopped) c.self.view_is ∙ c.requires.runs in
    let writes = done_of c.set_owner.result c.set_owner.ensures.faults c.set_owner.ensures.done c.self.inside.mark in
    let made = c.give_file-change.ensures.replayed ∙ ap (λ (b : Bool). cond b (with_owner c.args.path.now (Some c.args.after) (replay old)) (replay old)) c.if-change.true in (
      ap (λ (m : Mem). m.paths) is ∙ c.self.invariant.0,
      c.give_file-change.ensures.lawful c.self.inside.mark records (ap (λ (rs : List PlanRecord). is_planned rs c.args.path.now c.args.before c.args.after) same ∙ c.requires.planned) c.self.invariant.3 c.self.invariant.1,
      λ e. absurd (let h : false ≡ true = e in cc),
      c.give_file-change.ensures.begun records c.self.invariant.3,
      λ h. written_replay old new c.self.inside.held c.set_owner.new.self c.args.path.now c.args.after c.self.inside.mark writes (ap (λ (m : Mem). m.mark_now) is) made (c.self.invariant.4 h),
      λ runs.
          c.give_file-change.ensures.mode ∙ ap (λ (b : Bool). (not b || is_ok c.give_file-change.result.told) && no_mode_failed old) c.if-change.true
          ∙ set_too c.give_file-change.result.told (no_mode_failed old) (sym c.is_err-self-inside.ensures.value ∙ runs) (c.self.invariant.5 was),
    )

pub invariant_of-self-else-change : goal.invariant_of-self-else-change
invariant_of-self-else-change g c =
    let records = map record_of c.self.inside.records.now in
    let old = g.D.Disk.calls c.self.inside.disk in
    let new = g.D.Disk.calls c.give_file-change.new.disk in
    let same : records ≡ c.args.self.now.records = ap (λ (r : RealData). r.records) c.self.view_is in
    let left = c.give_file-change.ensures.replayed ∙ ap (λ (b : Bool). cond b (with_owner c.args.path.now (Some c.args.after) (replay old)) (replay old)) c.if-change.false in (
      c.self.invariant.0,
      c.give_file-change.ensures.lawful c.self.inside.mark records (ap (λ (rs : List PlanRecord). is_planned rs c.args.path.now c.args.before c.args.after) same ∙ c.requires.planned) c.self.invariant.3 c.self.invariant.1,
      λ e. absurd (let h : false ≡ true = e in cc),
      c.give_file-change.ensures.begun records c.self.invariant.3,
      λ h. same_replay old new c.self.inside.held left (c.self.invariant.4 h),
      λ runs.
          c.give_file-change.ensures.mode ∙ ap (λ (b : Bool). (not b || is_ok c.give_file-change.result.told) && no_mode_failed old) c.if-change.false
          ∙ c.self.invariant.5 runs,
    )

pub returns-then-change-clause-why : goal.returns-then-change-clause-why
returns-then-change-clause-why g c =
    let new = g.D.Disk.calls c.give_file-change.new.disk in
    subst (λ (old : List Called). OnErr c.give_file-change.result.told (AskedLast (FailsToGive c.args.path.now c.args.after) old new)) (ap (λ (r : RealData). r.calls) c.self.view_is) c.give_file-change.ensures.failed

pub returns-else-change-clause-why : goal.returns-else-change-clause-why
returns-else-change-clause-why g c =
    let new = g.D.Disk.calls c.give_file-change.new.disk in
    subst (λ (old : List Called). OnErr c.give_file-change.result.told (AskedLast (FailsToGive c.args.path.now c.args.after) old new)) (ap (λ (r : RealData). r.calls) c.self.view_is) c.give_file-change.ensures.failed
