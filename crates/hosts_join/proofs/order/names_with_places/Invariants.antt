use Rattle.std.proofs.Common.{◌≡◌, map}
use Rattle.std.specs.List.{All, range_with_len}
use Rattle.hosts_join.specs.Heads.{HasItsHead, named}
use Rattle.hosts_join.specs.Index.{accounts_in}
use Rattle.hosts_join.specs.Order.{name_at}
use Rattle.hosts_join.specs.Views.{placed}
use Rattle.hosts_join.proofs.order.names_with_places.Given as goal

abbrev pub invariant-loop-place : goal.invariant-loop-place
invariant-loop-place l = record {
  names : map placed (map named l.names.items) ≡ map (λ i. (name_at (accounts_in l.index) i, i)) (range_with_len 0 l.place);
  heads : All HasItsHead l.names.items;
}
