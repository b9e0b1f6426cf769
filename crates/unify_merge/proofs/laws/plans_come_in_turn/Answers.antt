use Rattle.unify_merge.proofs.InTurn.{plans-come-in-turn}
use Rattle.unify_merge.proofs.laws.plans_come_in_turn.Goals as goal

pub returns : goal.returns
returns c = plans-come-in-turn
