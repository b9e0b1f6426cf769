use Rattle.std.proofs.Common.{◌≡◌, ◌∙◌, ◌∷◌, inl, inr, true, List, Bool, map, ap, sym, subst, refl}
use Rattle.std.proofs.lemmas.Result.{on_ok_weaker, on_err_weaker}
use Rattle.reown_plan.specs.declared.mark.PlanMark.{PlanMark}
use Rattle.reown_plan.specs.PlanData.{PlanRecord}
use Rattle.reown_files.specs.declared.answers.Trouble.{Trouble}
use Rattle.reown_plan.specs.Records.{record_of}
use Rattle.reown_files.specs.Calls.{Called, SawMark, MarkNotSeen}
use Rattle.reown_files.specs.Failed.{AskedLast, SeesMarkOtherwise}
use Rattle.reown_files.specs.Lawful.{is_lawful, is_begun, is_synced, no_mode_failed}
use Rattle.reown_files.specs.Real.{RealData, Grows}
use Rattle.reown_files.specs.Replay.{replay}
use Rattle.reown_files.proofs.Failures.{failed_as, asked_once}
use Rattle.reown_files.proofs.Laws.{synced_stays, one_call}
use Rattle.reown_files.proofs.Replays.{same_replay}
use Rattle.reown_files.proofs.real_tree.RealTree.compare_mark.Goals as goal

-- what was kept stays so after a look that failed
still_synced : (plan : PlanMark) (trouble : Trouble) (old new : List Called) (records : List PlanRecord) → new ≡ MarkNotSeen plan trouble ∷ old → is_synced records old ≡ true → is_synced records new ≡ true
still_synced plan trouble old new records is h = ap (is_synced records) is ∙ synced_stays old (MarkNotSeen plan trouble ∷ old) (λ r e. e) refl records h

pub invariant_of-self-2 : goal.invariant_of-self-2
invariant_of-self-2 g c =
    let records = map record_of c.self.inside.records.now in
    let old = g.D.Disk.calls c.self.inside.disk in
    let new = g.D.Disk.calls c.is_marked.new.self in
    let is = c.in_ok-set.ensures.saw in (
      c.self.invariant.0,
      ap (is_lawful c.self.inside.mark records) is ∙ c.self.invariant.1,
      λ kept. ap (is_synced records) is ∙ synced_stays old (SawMark c.args.plan.now c.in_ok-set.set ∷ old) (λ r e. e) refl records (c.self.invariant.2 kept),
      ap (is_begun records) is ∙ c.self.invariant.3,
      λ h. same_replay old new c.self.inside.held (ap replay is) (c.self.invariant.4 h),
      λ runs. ap no_mode_failed is ∙ c.self.invariant.5 runs,
    )

pub returns-clause-saw : goal.returns-clause-saw
returns-clause-saw g c =
    on_ok_weaker c.check_mark.result
    (λ same. c.in_ok-set.ensures.saw ∙ ap (λ (set : Bool). SawMark c.args.plan.now set ∷ g.D.Disk.calls c.self.inside.disk) same ∙ ap (λ (r : RealData). SawMark c.args.plan.now c.args.held ∷ r.calls) c.self.view_is) c.check_mark.ensures.same

pub returns-clause-grows : goal.returns-clause-grows
returns-clause-grows g c =
    let new = g.D.Disk.calls c.is_marked.new.self in
    subst (λ (old : List Called). Grows old new) (ap (λ (r : RealData). r.calls) c.self.view_is) (one_call (g.D.Disk.calls c.self.inside.disk) new _ c.in_ok-set.ensures.saw)

pub invariant_of-self : goal.invariant_of-self
invariant_of-self g c =
    let records = map record_of c.self.inside.records.now in
    let old = g.D.Disk.calls c.self.inside.disk in
    let new = g.D.Disk.calls c.is_marked.new.self in
    let is = c.in_err-set.ensures.failed in (
      c.self.invariant.0,
      ap (is_lawful c.self.inside.mark records) is ∙ c.self.invariant.1,
      λ kept. still_synced _ _ old new records is (c.self.invariant.2 kept),
      ap (is_begun records) is ∙ c.self.invariant.3,
      λ h. same_replay old new c.self.inside.held (ap replay is) (c.self.invariant.4 h),
      λ runs. ap no_mode_failed is ∙ c.self.invariant.5 runs,
    )

pub returns-in_err-set-clause-grows : goal.returns-in_err-set-clause-grows
returns-in_err-set-clause-grows g c =
    let new = g.D.Disk.calls c.is_marked.new.self in
    subst (λ (old : List Called). Grows old new) (ap (λ (r : RealData). r.calls) c.self.view_is) (one_call (g.D.Disk.calls c.self.inside.disk) new _ c.in_err-set.ensures.failed)

pub returns-then-self-clause-failed : goal.returns-then-self-clause-failed
returns-then-self-clause-failed g c = inl (sym (ap (λ (r : RealData). r.is_stopped) c.self.view_is) ∙ c.if-self.true)

pub returns-in_err-set-clause-failed : goal.returns-in_err-set-clause-failed
returns-in_err-set-clause-failed g c =
    let new = g.D.Disk.calls c.is_marked.new.self in
    failed_as c.from_residual.result (λ failed. inr (subst (λ (old : List Called). AskedLast (SeesMarkOtherwise c.args.plan.now c.args.held) old new) (ap (λ (r : RealData). r.calls) c.self.view_is)
    (asked_once (SeesMarkOtherwise c.args.plan.now c.args.held) (g.D.Disk.calls c.self.inside.disk) new _ c.in_err-set.ensures.failed refl)))

pub returns-clause-failed : goal.returns-clause-failed
returns-clause-failed g c =
    let new = g.D.Disk.calls c.is_marked.new.self in
    on_err_weaker c.check_mark.result
    (λ other. inr (subst (λ (old : List Called). AskedLast (SeesMarkOtherwise c.args.plan.now c.args.held) old new) (ap (λ (r : RealData). r.calls) c.self.view_is)
    (asked_once (SeesMarkOtherwise c.args.plan.now c.args.held) (g.D.Disk.calls c.self.inside.disk) new _ c.in_ok-set.ensures.saw (refl, other)))) c.check_mark.ensures.other
