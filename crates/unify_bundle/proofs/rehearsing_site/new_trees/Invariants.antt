use Rattle.std.specs.Prelude.{◌≡◌, List, map, take, Ok}
use Rattle.idtext.specs.First.{each}
use Rattle.mtree_inv.specs.Inventory.{inventory}
use Rattle.mtree_inv.specs.declared.entry.Entry.{Entry}
use Rattle.unify_bundle.specs.Carrying.{new_tree_of}
use Rattle.unify_bundle.proofs.rehearsing_site.new_trees.Given as goal

abbrev pub invariant-loop-mtree : goal.invariant-loop-mtree
invariant-loop-mtree l = (files : List (List Entry)) → each (inventory 16777216) l.mtrees ≡ Ok files → l.trees.items ≡ map (new_tree_of l.keep) (take l.mtree-index files)
