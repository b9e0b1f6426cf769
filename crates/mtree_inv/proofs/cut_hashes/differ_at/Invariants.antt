use Rattle.std.proofs.Common.{◌≡◌, ◌<◌, ℕ, true}
use Rattle.std.specs.Prelude.{slice_get, Some}
use Rattle.std.specs.BTreeSet.{contains}
use Rattle.std.specs.Ordering.{nat_cmp}
use Rattle.mtree_inv.proofs.cut_hashes.differ_at.Given as goal

abbrev pub invariant-loop-index : goal.invariant-loop-index
invariant-loop-index l = record {
  seen : (p i hash : ℕ) → p < l.index-index → slice_get l.indices p ≡ Some i → slice_get l.hashes i ≡ Some hash → contains nat_cmp l.seen hash ≡ true;
  differ : (p q i j hash : ℕ) → p < l.index-index → q < l.index-index → slice_get l.indices p ≡ Some i → slice_get l.indices q ≡ Some j
      → slice_get l.hashes i ≡ Some hash → slice_get l.hashes j ≡ Some hash → i ≡ j;
}
