use Rattle.std.proofs.Common.{◌≡◌, ℕ, None, length}
use Rattle.std.specs.List.{slice_get}
use Rattle.std.specs.Option.{option_and_then}
use Rattle.hosts_join.specs.HostOwners.{place_in}
use Rattle.hosts_join.proofs.owners.Owners.with_capacity.Given as goal

abbrev pub invariant-loop-host : goal.invariant-loop-host
invariant-loop-host l = record { many : length l.tables.items ≡ l._host; none : (h v : ℕ) → option_and_then (λ t. place_in t v) (slice_get l.tables.items h) ≡ None }
