use Rattle.inventory_text.proofs.TypeWords.{kind-back}
use Rattle.inventory_text.proofs.laws.kinds_read_back.Goals as goal

pub returns : goal.returns
returns c = kind-back
