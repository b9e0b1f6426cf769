use Rattle.inventory_text.proofs.Cuts.{cut-anywhere}
use Rattle.inventory_text.proofs.Texts.{cut-refused}
use Rattle.inventory_text.proofs.laws.cut_inventories_are_refused.Goals as goal

pub returns : goal.returns
returns c = record { anywhere = cut-anywhere; between_lines = cut-refused }
