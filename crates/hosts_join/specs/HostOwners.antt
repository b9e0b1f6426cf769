-- Who has which number on one host, as its tables have it.
-- Words of the code and not of the subject: only private contracts, views and invariants cite them.
use Rattle.std.specs.Prelude.{◌≡◌, ℕ, ◌==◌, List, Option, Some}
use Rattle.std.specs.List.{All}
use Rattle.std.specs.Map.{lookup}
use Rattle.hosts_join.specs.declared.host_owners.Owned.{Owned}
use Rattle.hosts_join.specs.declared.host_owners.HostOwners.TheInside.{Inside}

-- the place of the name that has the number, among numbers with their places
abbrev pub place_in : List (ℕ × ℕ) → ℕ → Option ℕ
place_in places v = lookup (λ n. v == n) places

-- the numbers with their places
abbrev pub places_of : Inside → List (ℕ × ℕ)
places_of h = h.places.entries

-- each number that came has the place that it came with
abbrev pub AreOwned : Inside → Type 0
AreOwned h = All (λ (o : Owned). place_in (places_of h) o.number ≡ Some o.place) h.rows.items
