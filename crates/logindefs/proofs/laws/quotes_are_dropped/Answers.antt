use Rattle.logindefs.proofs.DroppedLemmas.{quotes-dropped}
use Rattle.logindefs.proofs.laws.quotes_are_dropped.Goals as goal

pub returns : goal.returns
returns c = quotes-dropped
