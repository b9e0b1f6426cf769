use Rattle.std.proofs.Common.{ℕ, List, length}
use Rattle.mtree_inv.proofs.ParentLemmas.{BeganSimply}
use Rattle.mtree_inv.proofs.place.simple_parent_len.Given as goal

-- front: what stands before the rest
abbrev pub invariant-loop-part : goal.invariant-loop-part
invariant-loop-part l = record {
  front : List ℕ;
  from : BeganSimply l.word front l.rest;
}

abbrev pub decreases-loop-part : goal.decreases-loop-part
decreases-loop-part l = length l.rest
