-- The rows that the hosts have of a name.
-- Source: passwd(5) and group(5); that the first host's row counts, and that users are joined, is
-- this project's own rule.
use Rattle.std.specs.Prelude.{ℕ, List, [], ◌∷◌, Option, Some, None, find, bytes_eq, flat_map}
use Rattle.std.specs.List.{filter_map}
use Rattle.std.specs.Option.{option_map}
use Rattle.accounts.specs.Rows.{Passwd, Group, members_of}
use Rattle.hosts_join.specs.Accounts.{first_appearances}
use Rattle.hosts_join.specs.declared.host.Host.{Host}

-- a user's row, and the host that it stands on
pub record UserRow : Type 0 where
  pub host : Host
  pub row : Passwd

-- a group's row, and the host that it stands on
pub record GroupRow : Type 0 where
  pub host : Host
  pub row : Group

-- the host's row of a user, and of a group
abbrev pub user_on : List ℕ → Host → Option UserRow
user_on name host =
    option_map (λ row. record { host = host; row = row })
    (find (λ row. bytes_eq name row.name) host.users)

abbrev pub group_on : List ℕ → Host → Option GroupRow
group_on name host =
    option_map (λ row. record { host = host; row = row })
    (find (λ row. bytes_eq name row.name) host.groups)

-- the rows of a user, and of a group, hosts in order
abbrev pub users_named : List ℕ → List Host → List UserRow
users_named name hosts = filter_map (user_on name) hosts

abbrev pub groups_named : List ℕ → List Host → List GroupRow
groups_named name hosts = filter_map (group_on name) hosts

-- the row of the first host that has the name
abbrev pub first_of : {X : Type 0} → List X → Option X
first_of [] = None
first_of (x ∷ xs) = Some x

-- the users of all lists in order of first appearance, each once, without empty items
abbrev pub all_members : List GroupRow → List (List ℕ)
all_members rows = flat_map (λ group. members_of group.row.members) rows

abbrev pub joined_users : List GroupRow → List (List ℕ)
joined_users rows = first_appearances (all_members rows)
