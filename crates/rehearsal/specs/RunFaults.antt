-- How the fault of a run is told, with the path of its record.
-- Words of the code and not of the subject: only private contracts, views and invariants cite them.
use Rattle.std.specs.Prelude.{List, Option, Some, option_map, slice_get}
use Rattle.reown_plan.specs.PlanData.{PlanRecord}
use Rattle.reown_runner.specs.declared.runner.RunFault.{RunFault}
use Rattle.reown_runner.specs.declared.runner.RunFault.TheVariants as run
use Rattle.unify_texts.specs.declared.fault.Fault.{Fault}
use Rattle.unify_texts.specs.declared.fault.Fault.TheVariants as fault

-- the fault, where its record is one of these
abbrev pub run_told : List PlanRecord → RunFault → Option Fault
run_told records run.Device = Some fault.Device
run_told records (run.Missing i) = option_map (λ r. fault.Missing r.path) (slice_get records i)
run_told records (run.Unfinished i) =
    option_map (λ r. fault.Unfinished r.path) (slice_get records i)
run_told records (run.Foreign i) = option_map (λ r. fault.Foreign r.path) (slice_get records i)
