use Rattle.inventory_text.proofs.Heads.{head-back}
use Rattle.inventory_text.proofs.laws.heads_read_back.Goals as goal

pub returns : goal.returns
returns c = head-back
