use Rattle.reown_plan.proofs.Unique.{spelling_unique}
use Rattle.reown_plan.proofs.laws.one_spelling.Goals as goal

pub returns : goal.returns
returns c = spelling_unique
