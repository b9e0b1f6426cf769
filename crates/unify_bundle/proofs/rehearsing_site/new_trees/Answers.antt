use Rattle.std.proofs.Common.{◌≤◌, length, get_or, map, ap, sym, ◌∙◌, arith, [], ◌∷◌, ◌++◌}
use Rattle.std.proofs.lemmas.List.{take_all}
use Rattle.idtext.proofs.OkLemmas.{length-each}
use Rattle.mtree_inv.specs.Inventory.{inventory}
use Rattle.unify_bundle.specs.Carrying.{new_tree_of}
use Rattle.unify_bundle.proofs.Carrying.{each_at, trees_more}
use Rattle.unify_bundle.proofs.rehearsing_site.new_trees.Goals as goal

pub new_tree-requires : goal.new_tree-requires
new_tree-requires c = (
  get_or c.requires.0 c.loop-mtree.mtree-index [],
  ap (inventory 16777216) (c.bytes.ensures ∙ c.mtree-item.is) ∙ each_at (inventory 16777216) c.args.mtrees.now c.requires.0 c.requires.1 c.loop-mtree.mtree-index c.mtree-item.result [] c.loop-mtree-test.true,
)

pub loop-mtree-preserved : goal.loop-mtree-preserved
loop-mtree-preserved c = λ files read.
    let own = c.in_ok-new_tree.ensures in
    let i = c.loop-mtree.mtree-index in
    c.in_ok-push.ensures.items
    ∙ ap (λ t. c.loop-mtree.trees.items ++ t ∷ []) own.2
    ∙ trees_more c.args.keep c.args.mtrees.now files read i c.mtree-item.result c.loop-mtree-test.true c.mtree-item.is own.0 (ap (inventory 16777216) (sym c.bytes.ensures) ∙ own.1) c.loop-mtree.trees.items (c.loop-mtree.invariant files read)

pub returns : goal.returns
returns c = λ files read.
    let all : length files ≤ c.loop-mtree.mtree-index = omega (arith, length-each (inventory 16777216) c.args.mtrees.now files read, c.loop-mtree-test.false) in
    c.loop-mtree.invariant files read ∙ ap (map (new_tree_of c.args.keep)) (take_all c.loop-mtree.mtree-index files all)
