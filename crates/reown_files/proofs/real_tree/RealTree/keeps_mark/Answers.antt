use Rattle.std.proofs.Common.{◌∙◌, ◌∷◌, List, map, ap, sym, subst, refl}
use Rattle.std.specs.Result.{is_ok}
use Rattle.reown_plan.specs.Records.{record_of}
use Rattle.reown_files.specs.Calls.{Called, KeptMark}
use Rattle.reown_files.specs.Failed.{Last, FailsToSettle}
use Rattle.reown_files.specs.Lawful.{is_lawful, is_begun, is_synced, no_mode_failed}
use Rattle.reown_files.specs.Real.{RealData, Grows}
use Rattle.reown_files.specs.Replay.{replay}
use Rattle.reown_files.proofs.Laws.{synced_stays, one_call}
use Rattle.reown_files.proofs.Replays.{same_replay}
use Rattle.reown_files.proofs.real_tree.RealTree.keeps_mark.Goals as goal

pub invariant_of-self : goal.invariant_of-self
invariant_of-self g c =
    let records = map record_of c.self.inside.records.now in
    let old = g.D.Disk.calls c.self.inside.disk in
    let new = g.D.Disk.calls c.keep_mark-told.new.self in
    let is = c.keep_mark-told.ensures in (
      c.self.invariant.0,
      ap (is_lawful c.self.inside.mark records) is ∙ c.self.invariant.1,
      λ kept. ap (is_synced records) is ∙ synced_stays old (KeptMark (is_ok c.keep_mark-told.result) ∷ old) (λ r e. e) refl records (c.self.invariant.2 kept),
      ap (is_begun records) is ∙ c.self.invariant.3,
      λ h. same_replay old new c.self.inside.held (ap replay is) (c.self.invariant.4 h),
      λ runs. ap no_mode_failed is ∙ c.self.invariant.5 runs,
    )

pub returns-clause-grows : goal.returns-clause-grows
returns-clause-grows g c =
    let calls = λ (r : RealData). r.calls in
    let new = g.D.Disk.calls c.keep_mark-told.new.self in
    subst (λ (after : List Called). Grows c.args.self.now.calls after) (sym (ap calls c.note.ensures.rest))
    (subst (λ (old : List Called). Grows old new) (ap calls c.self.view_is) (one_call (g.D.Disk.calls c.self.inside.disk) new _ c.keep_mark-told.ensures))

pub returns-clause-failed : goal.returns-clause-failed
returns-clause-failed g c = λ e.
    subst (λ (r : RealData). Last FailsToSettle r.calls) (sym c.note.ensures.rest)
    (subst (Last FailsToSettle) (sym c.keep_mark-told.ensures) (sym c.note.ensures.told ∙ e))
