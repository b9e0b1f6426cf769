use Rattle.std.proofs.Common.{Bool, cond, length, refl, ap}
use Rattle.std.proofs.lemmas.Bool.{lt-ltb}
use Rattle.idtext.specs.Escapes.{characters_after}
use Rattle.idtext.specs.First.{first_fault}
use Rattle.idtext.specs.Numbers.{numeral}
use Rattle.idtext.specs.Pieces.{pieces, lines}
use Rattle.idtext.specs.Words.{words}
use Rattle.mtree_inv.specs.Inventory.{named, first_appearances, files_of, fault_of, fault_said, said_alone, inventory_of_lines, inventory}
use Rattle.mtree_inv.specs.Kinds.{TooLong, Cut, kind_of, kind_of_text}
use Rattle.mtree_inv.proofs.laws.faults_by_example.Goals as goal

pub returns : goal.returns
unfolding characters_after first_fault numeral pieces lines words named first_appearances files_of fault_of inventory_of_lines inventory kind_of
returns c = record {
  lines = (refl, refl, refl, refl, refl, refl);
  owners = (refl, refl, refl);
  many = (refl, refl);
  next = (refl, refl);
  counts = (refl, refl, refl, refl);
  long = λ most before line long.
      ap (λ (b : Bool). fault_said most (files_of before) (said_alone before (cond b TooLong (cond line.is_cut Cut (kind_of_text line.text))))) (lt-ltb 65535 (length line.text) long);
  slash = λ most before keywords. refl;
  order = (refl, refl, refl, refl);
  order_of_files = (refl, refl, refl);
}
