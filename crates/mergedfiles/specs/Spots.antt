-- The row of a name at one of its spots.
-- Words of the code and not of the subject: only private contracts, views and invariants cite them.
use Rattle.std.specs.Prelude.{ℕ, List, Option}
use Rattle.std.specs.List.{slice_get, filter_map}
use Rattle.std.specs.Option.{option_and_then}
use Rattle.hosts_join.specs.declared.Spot.{Spot}
use Rattle.hosts_join.specs.declared.host.Host.{Host}
use Rattle.mergedfiles.specs.Rows.{UserRow, GroupRow, user_on, group_on}

abbrev pub user_at : List Host → List ℕ → Spot → Option UserRow
user_at hosts name spot = option_and_then (user_on name) (slice_get hosts spot.host)

abbrev pub users_at : List Host → List ℕ → List Spot → List UserRow
users_at hosts name spots = filter_map (user_at hosts name) spots

abbrev pub group_at : List Host → List ℕ → Spot → Option GroupRow
group_at hosts name spot = option_and_then (group_on name) (slice_get hosts spot.host)

abbrev pub groups_at : List Host → List ℕ → List Spot → List GroupRow
groups_at hosts name spots = filter_map (group_at hosts name) spots
