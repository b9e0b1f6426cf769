-- Which users the merged row of a group has, and in which order, in other words.
-- Source: group(5), DESCRIPTION (a user list in each row); that the users of all hosts are joined
-- is this project's own rule.
use Rattle.std.specs.Prelude.{◌≡◌, ◌↔◌, ℕ, List, ◌∷◌, ◌++◌, All, Any, Contains}
use Rattle.accounts.specs.Laws.{AreDistinct, IsGroupTable}
use Rattle.accounts.specs.Rows.{members_of}
use Rattle.hosts_join.specs.declared.host.Host.{Host}
use Rattle.mergedfiles.specs.Rows.{groups_named, joined_users}

-- the host has a row of the group, and the user is in the user list of the row
abbrev pub HasInGroup : List ℕ → List ℕ → Host → Type 0
HasInGroup name user host =
    Any (λ row. (row.name ≡ name) × Contains (members_of row.members) user) host.groups

-- the list has a beginning in which the one stands and the other does not
abbrev pub AppearsBefore : List ℕ → List ℕ → List (List ℕ) → Type 0
AppearsBefore one other list =
    (start rest : List (List ℕ)) × (list ≡ start ++ rest) × Contains start one
    × ¬ Contains start other

-- the host has a row of the group, in whose user list the one appears before the other
abbrev pub ListsBefore : List ℕ → List ℕ → List ℕ → Host → Type 0
ListsBefore name one other host =
    Any (λ row. (row.name ≡ name) × AppearsBefore one other (members_of row.members)) host.groups

-- the users of the merged group of the name
abbrev pub merged_members : List ℕ → List Host → List (List ℕ)
merged_members name hosts = joined_users (groups_named name hosts)

-- A user is among the users of a merged group exactly where some host has it in this group, and
-- each stands there once. Those of the first hosts stand before all others, and those that a host
-- adds to them in the order of its own list.
pub record AreUsersOfAllHosts (name : List ℕ) (hosts : List Host) : Type 0 where
  pub exactly : (user : List ℕ) → Contains (merged_members name hosts) user
      ↔ Any (HasInGroup name user) hosts
  pub once : AreDistinct (merged_members name hosts)
  pub first_hosts_first : (before behind : List Host) → hosts ≡ before ++ behind
      → (more : List (List ℕ)) × (merged_members name hosts ≡ merged_members name before ++ more)
  pub added_in_order : (before behind : List Host) (host : Host) (one other : List ℕ)
      → hosts ≡ before ++ host ∷ behind → ListsBefore name one other host
      → ¬ Any (HasInGroup name other) before
      → AppearsBefore one other (merged_members name hosts)

-- so it is where each host's groups are such as a table has them, each name once
abbrev pub MergedUsersAreOfAllHosts : Type 0
MergedUsersAreOfAllHosts =
    (name : List ℕ) (hosts : List Host) → All (λ host. IsGroupTable host.groups) hosts
    → AreUsersOfAllHosts name hosts
