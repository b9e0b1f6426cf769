-- The fields in which a later host differs from the first.
-- Source: this project's own rule.
use Rattle.std.specs.Prelude.{ℕ, not, List, [], ◌∷◌, ◌++◌, map, filter, flat_map, bytes_eq}
use Rattle.std.specs.Prelude.{unwrap_or}
use Rattle.hosts_join.specs.Kinds.{group_at}
use Rattle.hosts_join.specs.Site.{Joined}
use Rattle.hosts_join.specs.declared.Which.TheVariants as kind
use Rattle.hosts_join.specs.declared.host.Host.{Host}
use Rattle.mergedfiles.specs.declared.Difference.{Difference}
use Rattle.mergedfiles.specs.declared.Field.{Field}
use Rattle.mergedfiles.specs.declared.Field.TheVariants as field
use Rattle.mergedfiles.specs.Order.{by_bytes}
use Rattle.mergedfiles.specs.Rows.{UserRow, GroupRow, users_named, groups_named}

-- the name of the group that has the number on the host; the empty name where none has it
abbrev pub group_name : Host → ℕ → List ℕ
group_name host gid = unwrap_or (group_at host.groups gid) []

-- what a field of a user's row says; its primary group by name
abbrev pub user_field : Field → UserRow → List ℕ
user_field field.Password user = user.row.password
user_field field.Comment user = user.row.comment
user_field field.Home user = user.row.home
user_field field.Shell user = user.row.shell
user_field field.Group user = group_name user.host user.row.gid

-- the later hosts where the field is another than on the first
abbrev pub user_differs : List ℕ → Field → UserRow → List UserRow → List Difference
user_differs name what first later =
    map (λ user. record { kind = kind.User; name = name; field = what; host = user.host.name })
    (filter (λ user. not (bytes_eq (user_field what user) (user_field what first))) later)

-- field by field, and for each the hosts in order
abbrev pub user_differences : List ℕ → List UserRow → List Difference
user_differences name [] = []
user_differences name (first ∷ later) =
    flat_map (λ what. user_differs name what first later)
    (field.Password ∷ field.Comment ∷ field.Home ∷ field.Shell ∷ field.Group ∷ [])

-- a group differs in its password
abbrev pub group_differs : List ℕ → GroupRow → List GroupRow → List Difference
group_differs name first later =
    map (λ group. record {
      kind = kind.Group;
      name = name;
      field = field.Password;
      host = group.host.name;
    })
    (filter (λ group. not (bytes_eq group.row.password first.row.password)) later)

abbrev pub group_differences : List ℕ → List GroupRow → List Difference
group_differences name [] = []
group_differences name (first ∷ later) = group_differs name first later

-- those of all users, names in byte order
abbrev pub all_user_differences : List Host → Joined → List Difference
all_user_differences hosts site =
    flat_map (λ name. user_differences name (users_named name hosts)) (by_bytes site.users)

-- and of all groups
abbrev pub all_group_differences : List Host → Joined → List Difference
all_group_differences hosts site =
    flat_map (λ name. group_differences name (groups_named name hosts)) (by_bytes site.groups)

-- users before groups
abbrev pub site_differences : List Host → Joined → List Difference
site_differences hosts site = all_user_differences hosts site ++ all_group_differences hosts site
