-- A host's own passwd and group with its new numbers: in each line of an account the fields that
-- hold a number are replaced, and every other byte is as it was.
-- Sources: passwd(5), DESCRIPTION (name, password, UID, GID, comment, home directory, shell,
-- between colons); group(5), DESCRIPTION (name, password, GID, user list, between colons). That
-- nothing else changes is this project's own rule.
use Rattle.std.specs.Prelude.{ℕ, List, ◌∷◌, map, Option, Some, None, decimal, if◌then◌else◌}
use Rattle.std.specs.List.{join_with_byte}
use Rattle.std.specs.Option.{option_map, option_and_then}
use Rattle.idtext.specs.Names.{is_skipped}
use Rattle.idtext.specs.Numbers.{id_of}
use Rattle.idtext.specs.Pieces.{fields_of, pieces}
use Rattle.hosts_join.specs.Accounts.{Accounts, place_of}
use Rattle.hosts_join.specs.Kinds.{group_at}
use Rattle.hosts_join.specs.Site.{Joined}
use Rattle.hosts_join.specs.declared.host.Host.{Host}
use Rattle.ownership.specs.Mappings.{number_at}
use Rattle.ownership.specs.declared.mapping.Mappings.{Mappings}

-- the new number of a name, where it is a name of the site
abbrev pub new_number : Accounts → List ℕ → List ℕ → Option ℕ
new_number accounts m name = option_map (number_at m) (place_of accounts.names name)

-- the new number of the group that has, on the host, the number that the field holds
abbrev pub new_primary : Host → Accounts → List ℕ → List ℕ → Option ℕ
new_primary host groups m gid =
    option_and_then (new_number groups m) (option_and_then (group_at host.groups) (id_of gid))

-- a number in decimal in the place of a field; where there is no number the field stays
abbrev pub number_field : Option ℕ → List ℕ → List ℕ
number_field None field = field
number_field (Some number) field = decimal number

-- the fields of a user: the third holds its new number, the fourth that of its primary group
abbrev pub renumbered_user : Host → Joined → Mappings → List (List ℕ) → List (List ℕ)
renumbered_user host site m (name ∷ password ∷ uid ∷ gid ∷ comment ∷ more) =
    name ∷ password
    ∷ number_field (new_number site.users m.users name) uid
    ∷ number_field (new_primary host site.groups m.groups gid) gid
    ∷ comment ∷ more
renumbered_user host site m fields = fields

-- the fields of a group: the third holds its new number
abbrev pub renumbered_group : Joined → List ℕ → List (List ℕ) → List (List ℕ)
renumbered_group site m (name ∷ password ∷ gid ∷ members ∷ more) =
    name ∷ password ∷ number_field (new_number site.groups m name) gid ∷ members ∷ more
renumbered_group site m fields = fields

-- a line with its fields renumbered; a skipped line, as a comment or an empty one, is as it was
unfoldable pub renumbered_line : (List (List ℕ) → List (List ℕ)) → List ℕ → List ℕ
renumbered_line renumbered line =
    if is_skipped line then line else join_with_byte 58 (renumbered (fields_of line))

-- a text with its lines renumbered, between the same newlines
unfoldable pub renumbered_text : (List (List ℕ) → List (List ℕ)) → List ℕ → List ℕ
renumbered_text renumbered text =
    join_with_byte 10 (map (renumbered_line renumbered) (pieces 10 text))

-- the host's passwd, by mappings of users and of groups
abbrev pub host_users : Host → Joined → Mappings → List ℕ → List ℕ
host_users host site m text = renumbered_text (renumbered_user host site m) text

-- the host's group, by the mapping of groups
abbrev pub host_groups : Joined → List ℕ → List ℕ → List ℕ
host_groups site m text = renumbered_text (renumbered_group site m) text
