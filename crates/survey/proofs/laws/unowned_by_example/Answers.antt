use Rattle.std.proofs.Common.{refl}
use Rattle.survey.proofs.laws.unowned_by_example.Goals as goal

pub returns : goal.returns
returns c = λ host. refl
