use Rattle.inventory_text.proofs.Entries.{entry-back}
use Rattle.inventory_text.proofs.laws.entries_read_back.Goals as goal

pub returns : goal.returns
returns c = entry-back
