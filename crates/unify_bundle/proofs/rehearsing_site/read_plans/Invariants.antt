use Rattle.std.specs.Prelude.{◌≡◌, List, map, take, All}
use Rattle.reown_plan.specs.PlanData.{PlanData}
use Rattle.reown_plan.specs.Spelling.{spelling, IsLawful}
use Rattle.unify_bundle.proofs.rehearsing_site.read_plans.Given as goal

abbrev pub invariant-loop-text : goal.invariant-loop-text
invariant-loop-text l = (plans : List PlanData) → All IsLawful plans → l.spelled ≡ map spelling plans → l.plans.items ≡ take l.text-index plans
