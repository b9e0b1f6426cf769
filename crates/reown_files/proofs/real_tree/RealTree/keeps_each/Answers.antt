use Rattle.std.proofs.Common.{◌≡◌, ◌∙◌, inr, true, false, List, map, ap, subst}
use Rattle.reown_plan.specs.Records.{record_of}
use Rattle.reown_plan.specs.PlanData.{PlanRecord}
use Rattle.reown_files.specs.Real.{RealData, WasNotKept}
use Rattle.reown_files.proofs.Replays.{same_replay}
use Rattle.reown_files.proofs.real_tree.RealTree.keeps_each.Goals as goal

pub invariant_of-self : goal.invariant_of-self
invariant_of-self g c =
    (c.self.invariant.0, c.sync_all.ensures.lawful c.self.inside.mark (map record_of c.self.inside.records.now) c.self.invariant.1, λ e. c.in-Ok.ensures.synced, c.sync_all.ensures.begun (map record_of c.self.inside.records.now) c.self.invariant.3, λ h. same_replay (g.D.Disk.calls c.self.inside.disk) (g.D.Disk.calls c.sync_all.new.disk) c.self.inside.held c.sync_all.ensures.replayed (c.self.invariant.4 h), λ runs. c.sync_all.ensures.modes ∙ c.self.invariant.5 runs)

pub invariant_of-self-in-Err : goal.invariant_of-self-in-Err
invariant_of-self-in-Err g c =
    (c.self.invariant.0, c.sync_all.ensures.lawful c.self.inside.mark (map record_of c.self.inside.records.now) c.self.invariant.1, λ e. absurd (let h : false ≡ true = e in cc), c.sync_all.ensures.begun (map record_of c.self.inside.records.now) c.self.invariant.3, λ h. same_replay (g.D.Disk.calls c.self.inside.disk) (g.D.Disk.calls c.sync_all.new.disk) c.self.inside.held c.sync_all.ensures.replayed (c.self.invariant.4 h), λ runs. c.sync_all.ensures.modes ∙ c.self.invariant.5 runs)

pub returns-in-Err-clause-failure : goal.returns-in-Err-clause-failure
returns-in-Err-clause-failure g c = λ e.
    inr (subst (λ (rs : List PlanRecord). WasNotKept rs (g.D.Disk.calls c.sync_all.new.disk) c.in-Err.failure.place) (ap (λ (r : RealData). r.records) c.self.view_is) c.in-Err.ensures.failure)
