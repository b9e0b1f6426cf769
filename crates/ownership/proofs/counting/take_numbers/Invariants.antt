use Rattle.std.proofs.Common.{◌≡◌, ℕ, ◌==◌, take}
use Rattle.std.specs.List.{list_any}
use Rattle.ownership.proofs.counting.take_numbers.Given as goal

abbrev pub invariant-loop-spot : goal.invariant-loop-spot
invariant-loop-spot l = (v : ℕ) → list_any (λ n. v == n) l.numbers.items ≡ list_any (λ s. v == s.number) (take l.spot-index l.spots)
