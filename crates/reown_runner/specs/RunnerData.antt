-- What a runner is to its user.
-- Source: this project's own rule.
use Rattle.std.specs.Prelude.{List}
use Rattle.reown_plan.specs.declared.mark.PlanMark.{PlanMark}
use Rattle.reown_plan.specs.Mark.{mark_of}
use Rattle.reown_plan.specs.PlanData.{PlanData, PlanRecord}
use Rattle.reown_runner.specs.declared.runner.Place.{Place}
use Rattle.reown_runner.specs.declared.runner.Place.TheVariants.{Start}

-- the mark and the records of its plan, and where it is in them
pub record RunnerData : Type 0 where
  pub mark : PlanMark
  pub records : List PlanRecord
  pub place : Place

-- at the start of a plan
abbrev pub starting : PlanData → RunnerData
starting plan = record { mark = mark_of plan; records = plan.records; place = Start }
