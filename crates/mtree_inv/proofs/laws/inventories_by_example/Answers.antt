use Rattle.std.proofs.Common.{refl}
use Rattle.idtext.specs.Escapes.{characters_after}
use Rattle.idtext.specs.First.{first_fault}
use Rattle.idtext.specs.Numbers.{numeral}
use Rattle.idtext.specs.Pieces.{pieces, lines}
use Rattle.idtext.specs.Words.{words}
use Rattle.mtree_inv.specs.Inventory.{named, first_appearances, files_of, fault_of, inventory_of_lines, inventory}
use Rattle.mtree_inv.specs.Kinds.{kind_of}
use Rattle.mtree_inv.proofs.laws.inventories_by_example.Goals as goal

pub returns : goal.returns
unfolding characters_after first_fault numeral pieces lines words named first_appearances files_of fault_of inventory_of_lines inventory kind_of
returns c = record { set = refl; set_type = refl; unset = refl; no_owner = (refl, refl); end = (refl, refl); counted = refl }
