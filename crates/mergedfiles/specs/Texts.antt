-- The merged files, after passwd(5) and group(5).
-- Source: passwd(5) and group(5); the choice of fields is this project's own rule.
use Rattle.std.specs.Prelude.{ℕ, List, [], ◌∷◌, ◌++◌, flat_map, Option, Some, None, decimal}
use Rattle.std.specs.List.{join_with_byte}
use Rattle.std.specs.Option.{option_and_then}
use Rattle.hosts_join.specs.Accounts.{Accounts, place_of}
use Rattle.hosts_join.specs.Kinds.{group_at}
use Rattle.hosts_join.specs.Rules.{account}
use Rattle.hosts_join.specs.Site.{Joined}
use Rattle.hosts_join.specs.declared.host.Host.{Host}
use Rattle.ownership.specs.Mappings.{number_under}
use Rattle.ownership.specs.declared.mapping.Mappings.{Mappings}
use Rattle.mergedfiles.specs.Order.{by_number}
use Rattle.mergedfiles.specs.Rows.{UserRow, GroupRow, groups_named, users_named, first_of}
use Rattle.mergedfiles.specs.Rows.{joined_users}

-- a field and the colon after it
abbrev pub field : List ℕ → List ℕ
field text = text ++ 58 ∷ []

-- a line of group: a name, the password of the first host that has it, its number, and its users
abbrev pub group_line : List ℕ → ℕ → List (List ℕ) → Option GroupRow → List ℕ
group_line name number users None = []
group_line name number users (Some first) =
    field name ++ field first.row.password ++ field (decimal number) ++ join_with_byte 44 users
    ++ 10 ∷ []

-- the line of a group, whose users are those of all hosts
abbrev pub merged_group : List Host → List ℕ → ℕ → List ℕ
merged_group hosts name number =
    group_line name number (joined_users (groups_named name hosts))
    (first_of (groups_named name hosts))

-- the new number of the group that has the number on the host
abbrev pub new_gid : Accounts → List ℕ → Host → ℕ → ℕ
new_gid groups m host gid =
    number_under m (option_and_then (place_of groups.names) (group_at host.groups gid)) gid

-- a line of passwd: a name, its number, and the fields of the first host that has it, with its
-- primary group's new number
abbrev pub user_line : Accounts → List ℕ → List ℕ → ℕ → Option UserRow → List ℕ
user_line groups m name number None = []
user_line groups m name number (Some first) =
    field name ++ field first.row.password ++ field (decimal number)
    ++ field (decimal (new_gid groups m first.host first.row.gid)) ++ field first.row.comment
    ++ field first.row.home ++ first.row.shell ++ 10 ∷ []

-- the line of a user
abbrev pub merged_user : Accounts → List ℕ → List Host → List ℕ → ℕ → List ℕ
merged_user groups m hosts name number =
    user_line groups m name number (first_of (users_named name hosts))

-- the merged group: a line for each name, ascending by its new number
abbrev pub merged_groups : List Host → Joined → List ℕ → List ℕ
merged_groups hosts site m =
    flat_map (λ p. merged_group hosts (account site.groups p.0).name p.1) (by_number m)

-- the merged passwd, by mappings of users and of groups
abbrev pub merged_users : List Host → Joined → Mappings → List ℕ
merged_users hosts site m =
    flat_map (λ p. merged_user site.groups m.groups hosts (account site.users p.0).name p.1)
    (by_number m.users)
