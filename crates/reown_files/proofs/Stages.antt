-- The stage of a plan, as calls have told it.
use Rattle.std.proofs.Common.{◌≡◌, ◌∙◌, ◌||◌, Bool, Some, None, cond, ap, sym, List}
use Rattle.reown_plan.specs.declared.mark.PlanMark.{PlanMark}
use Rattle.reown_plan.specs.Mark.{is_marked_for}
use Rattle.reown_plan.specs.PlanData.{PlanRecord}
use Rattle.reown_files.specs.Calls.{Called}
use Rattle.reown_files.specs.Opening.{MetFit}
use Rattle.reown_files.specs.Replay.{Held, replay}
use Rattle.reown_files.specs.Stages.{stage_of, stage_in}
use Rattle.reown_files.specs.declared.stage.Stage.{Stage}
use Rattle.reown_files.proofs.Laws.{met_marked}

-- the mark was met, and modes read, as these tell
pub stage_told : (known : Bool) (plan : PlanMark) (set begun : Bool) (held : Held) → held.mark ≡ cond set (Some plan) None → held.begun ≡ cond begun (Some plan) None → stage_of set (begun || known) ≡ stage_in known plan held
stage_told known plan set begun held mark modes =
    let by = is_marked_for plan held.begun || known in
    sym (ap (λ m. stage_of (is_marked_for plan m) by) mark ∙ ap (λ b. stage_of b by) (met_marked plan set)
    ∙ ap (λ m. stage_of set (is_marked_for plan m || known)) modes ∙ ap (λ b. stage_of set (b || known)) (met_marked plan begun))

-- calls that leave what is held leave each file as it was met
pub fit_stays : (stage : Stage) (records : List PlanRecord) (old new : List Called) → replay new ≡ replay old → MetFit stage records old → MetFit stage records new
fit_stays stage records old new same fit =
    record {
      owners = fit.owners;
      as_many = fit.as_many;
      met = λ path. ap (λ (h : Held). h.owner path) same ∙ fit.met path;
      allowed = fit.allowed;
    }
