use Rattle.inventory_text.proofs.Texts.{text-back}
use Rattle.inventory_text.proofs.laws.inventories_read_back.Goals as goal

pub returns : goal.returns
returns c = text-back
