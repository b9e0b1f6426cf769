use Rattle.std.proofs.Common.{◌≡◌, None, length}
use Rattle.std.specs.Prelude.{All}
use Rattle.unify.proofs.known_owners.no_owners.Given as goal

abbrev pub invariant-loop-place : goal.invariant-loop-place
invariant-loop-place l = record {
  so_many : length l.owners.items ≡ l._place;
  none : All (λ o. o.change ≡ None) l.owners.items;
}
