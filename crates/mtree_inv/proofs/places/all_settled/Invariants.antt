use Rattle.std.proofs.Common.{◌≡◌, ◌<◌, ℕ, length}
use Rattle.std.specs.Prelude.{slice_get, Some}
use Rattle.mtree_inv.specs.Cuts.{Cut}
use Rattle.mtree_inv.specs.Places.{IsFoundAt, KeepOthers}
use Rattle.mtree_inv.proofs.places.all_settled.Given as goal

abbrev pub invariant-loop-index : goal.invariant-loop-index
invariant-loop-index l = record {
  len : length l.places.items ≡ l.len;
  found : (i : ℕ) (cut : Cut) → i < l.index → slice_get l.rows i ≡ Some cut → IsFoundAt l.places.items l.others.entries cut i;
  others : KeepOthers l.rows l.initial.others.entries l.others.entries;
}
