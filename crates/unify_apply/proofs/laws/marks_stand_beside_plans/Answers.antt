use Rattle.std.proofs.Common.{refl}
use Rattle.unify_apply.proofs.laws.marks_stand_beside_plans.Goals as goal

pub returns : goal.returns
returns c = record { named = λ path plan. refl; beside = λ plan. refl; example = refl }
