use Rattle.std.proofs.Common.{◌≡◌, ◌∙◌, inl, inr, refl, List, ap, sym, subst, map, true}
use Rattle.reown_plan.specs.Mark.{mark_eq}
use Rattle.reown_files.specs.Calls.{Called}
use Rattle.reown_files.specs.Failed.{AskedLast, FailsToPut}
use Rattle.reown_files.specs.Real.{RealData, Grows}
use Rattle.std.specs.Result.{is_ok}
use Rattle.reown_plan.specs.Records.{record_of}
use Rattle.reown_files.specs.Lawful.{is_lawful, is_begun, is_synced, no_mode_failed}
use Rattle.reown_runner.specs.Memory.{Mem}
use Rattle.reown_files.specs.Replay.{replay}
use Rattle.reown_files.proofs.Failures.{asked_once, failed_as}
use Rattle.reown_files.proofs.Laws.{lawful_mark, synced_behind_mark, one_call}
use Rattle.reown_files.proofs.Replays.{marked_replay, same_replay}
use Rattle.reown_files.proofs.real_tree.RealTree.put_mark.Goals as goal

pub invariant_of-self-2 : goal.invariant_of-self-2
invariant_of-self-2 g c =
    let records = map record_of c.self.inside.records.now in
    let calls = g.D.Disk.calls c.self.inside.disk in
    let own : mark_eq c.args.plan.now c.self.inside.mark ≡ true = ap (λ (r : RealData). mark_eq c.args.plan.now r.mark) c.self.view_is ∙ sym c.is_own.ensures ∙ c.if-not-is_own.false in
    let done = is_ok c.put_mark.result in (
      ap (λ (m : Mem). m.paths) c.set_mark.ensures.marked ∙ c.self.invariant.0,
      ap (is_lawful c.self.inside.mark records) c.put_mark.ensures ∙ lawful_mark c.self.inside.mark records calls c.args.plan.now done own (c.self.invariant.2 c.if-not-self.false) (c.self.invariant.5 c.if-self.false) c.self.invariant.1,
      λ kept. ap (is_synced records) c.put_mark.ensures ∙ synced_behind_mark c.args.plan.now done calls records (c.self.invariant.2 kept),
      ap (is_begun records) c.put_mark.ensures ∙ c.self.invariant.3,
      λ h. marked_replay calls (g.D.Disk.calls c.put_mark.new.self) c.self.inside.held c.set_mark.new.self c.args.plan.now c.in_ok-put_mark.ensures c.set_mark.ensures.marked (c.self.invariant.4 h),
      λ runs. ap no_mode_failed c.put_mark.ensures ∙ c.self.invariant.5 runs,
    )

pub invariant_of-self : goal.invariant_of-self
invariant_of-self g c =
    let records = map record_of c.self.inside.records.now in
    let calls = g.D.Disk.calls c.self.inside.disk in
    let own : mark_eq c.args.plan.now c.self.inside.mark ≡ true = ap (λ (r : RealData). mark_eq c.args.plan.now r.mark) c.self.view_is ∙ sym c.is_own.ensures ∙ c.if-not-is_own.false in
    let done = is_ok c.put_mark.result in (
      c.self.invariant.0,
      ap (is_lawful c.self.inside.mark records) c.put_mark.ensures ∙ lawful_mark c.self.inside.mark records calls c.args.plan.now done own (c.self.invariant.2 c.if-not-self.false) (c.self.invariant.5 c.if-self.false) c.self.invariant.1,
      λ kept. ap (is_synced records) c.put_mark.ensures ∙ synced_behind_mark c.args.plan.now done calls records (c.self.invariant.2 kept),
      ap (is_begun records) c.put_mark.ensures ∙ c.self.invariant.3,
      λ h. same_replay calls (g.D.Disk.calls c.put_mark.new.self) c.self.inside.held (ap replay c.in_err-put_mark.ensures) (c.self.invariant.4 h),
      λ runs. ap no_mode_failed c.put_mark.ensures ∙ c.self.invariant.5 runs,
    )

pub returns-clause-grows : goal.returns-clause-grows
returns-clause-grows g c =
    let new = g.D.Disk.calls c.put_mark.new.self in
    subst (λ (old : List Called). Grows old new) (ap (λ (r : RealData). r.calls) c.self.view_is) (one_call (g.D.Disk.calls c.self.inside.disk) new _ c.put_mark.ensures)

pub returns-in_err-put_mark-clause-grows : goal.returns-in_err-put_mark-clause-grows
returns-in_err-put_mark-clause-grows g c =
    let new = g.D.Disk.calls c.put_mark.new.self in
    subst (λ (old : List Called). Grows old new) (ap (λ (r : RealData). r.calls) c.self.view_is) (one_call (g.D.Disk.calls c.self.inside.disk) new _ c.put_mark.ensures)

pub returns-then-self-clause-why : goal.returns-then-self-clause-why
returns-then-self-clause-why g c = inr (inr (inl (sym (ap (λ (r : RealData). r.is_stopped) c.self.view_is) ∙ c.if-self.true)))

pub returns-then-not-self-clause-why : goal.returns-then-not-self-clause-why
returns-then-not-self-clause-why g c = inr (inl (sym (ap (λ (r : RealData). r.is_kept) c.self.view_is) ∙ c.if-not-self.true))

pub returns-then-not-is_own-clause-why : goal.returns-then-not-is_own-clause-why
returns-then-not-is_own-clause-why g c = inl (sym c.is_own.ensures ∙ c.if-not-is_own.true)

pub returns-in_err-put_mark-clause-why : goal.returns-in_err-put_mark-clause-why
returns-in_err-put_mark-clause-why g c = failed_as c.from_residual.result (λ e.
    let new = g.D.Disk.calls c.put_mark.new.self in
    inr (inr (inr (subst (λ (old : List Called). AskedLast (FailsToPut c.args.plan.now) old new) (ap (λ (r : RealData). r.calls) c.self.view_is)
    (asked_once (FailsToPut c.args.plan.now) (g.D.Disk.calls c.self.inside.disk) new _ c.put_mark.ensures (refl, ap is_ok c.in_err-put_mark.was))))))
