use Rattle.std.proofs.Common.{◌≡◌, ℕ, length}
use Rattle.std.specs.Prelude.{slice_get, Some}
use Rattle.mtree_inv.specs.Cuts.{Cut}
use Rattle.mtree_inv.specs.Places.{hash_of}
use Rattle.mtree_inv.proofs.cut_hashes.all_hashes.Given as goal

abbrev pub invariant-loop-index : goal.invariant-loop-index
invariant-loop-index l = record {
  len : length l.hashes.items ≡ l.index;
  hashes : (i hash : ℕ) (cut : Cut) → slice_get l.hashes.items i ≡ Some hash → slice_get l.rows i ≡ Some cut → hash ≡ hash_of cut;
}
