use Rattle.std.proofs.Common.{length}
use Rattle.mtree_inv.specs.Paths.{components, has_bad_component}
use Rattle.mtree_inv.specs.Machine.{joined_onto}
use Rattle.mtree_inv.proofs.UnescapedLemmas.{PiecesTo, AreNames}
use Rattle.mtree_inv.proofs.place.push_unescaped.Given as goal

abbrev pub invariant-loop-part : goal.invariant-loop-part
invariant-loop-part l = record {
  read : PiecesTo l.path.items l.rest (has_bad_component l.word) (joined_onto l.initial.path.items (components l.word));
  names : AreNames l.rest;
}

abbrev pub decreases-loop-part : goal.decreases-loop-part
decreases-loop-part l = length l.rest
