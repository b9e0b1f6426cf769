-- Who has which number on which host, as its table has it.
-- Words of the code and not of the subject: only private contracts, views and invariants cite them.
use Rattle.std.specs.Prelude.{ℕ, ◌==◌, ◌&&◌, if◌then◌else◌, Option, Some}
use Rattle.std.specs.List.{slice_get}
use Rattle.std.specs.Option.{option_and_then}
use Rattle.hosts_join.specs.HostOwners.{place_in}
use Rattle.hosts_join.specs.declared.owners.Owners.{Owners}

-- the place of the name that has the number on the host
abbrev pub owner_in : Owners → ℕ → ℕ → Option ℕ
owner_in owners h v = option_and_then (λ places. place_in places v) (slice_get owners.hosts.items h)

-- where this place has the number on the host, and all else is as before
abbrev pub with_owner : Owners → ℕ → ℕ → ℕ → (ℕ → ℕ → Option ℕ)
with_owner owners host number place h v =
    if (h == host) && (v == number) then Some place else owner_in owners h v
