-- Which names of a site stay as they are.
-- Source: this project's own rule. Rows are names with their numbers, those of all hosts one
-- after the other.
use Rattle.std.specs.Prelude.{◌≡◌, ℕ, Bool, false, ◌||◌, List, [], ◌∷◌, map, filter, flat_map}
use Rattle.std.specs.Prelude.{bytes_eq}
use Rattle.std.specs.List.{list_all, list_any}
use Rattle.hosts_join.specs.Kinds.{user_rows, group_rows}
use Rattle.hosts_join.specs.declared.host.Host.{Host}
use Rattle.hosts_join.specs.RangeLists.{lies_in_some}
use Rattle.keep_text.specs.declared.keep_text.Kept.{Kept}
use Rattle.keep_text.specs.declared.keep_text.KeepText.{KeepText}

-- the name is one of these
abbrev pub is_among : List (List ℕ) → List ℕ → Bool
is_among names name = list_any (bytes_eq name) names

-- the numbers that a name has, over all hosts
abbrev pub numbers_of : List (List ℕ × ℕ) → List ℕ → List ℕ
numbers_of rows name = map (λ row. row.1) (filter (λ row. bytes_eq name row.0) rows)

-- A name with these numbers stays as it is where it is listed, and where each of its numbers lies
-- in a listed range. A name without a number is no host's, and listing it says nothing.
abbrev pub stays : Kept → List ℕ → List ℕ → Bool
stays keep name [] = false
stays keep name (number ∷ numbers) =
    is_among keep.names name || list_all (lies_in_some keep.ranges) (number ∷ numbers)

-- the name is kept
abbrev pub is_kept : Kept → List (List ℕ × ℕ) → List ℕ → Bool
is_kept keep rows name = stays keep name (numbers_of rows name)

-- ---- what stays of one kind

-- names that keep their numbers
pub record Keeping : Type 0 where
  pub names : List (List ℕ)

abbrev pub keeps : Keeping → List ℕ → Bool
keeps keeping name = is_among keeping.names name

-- it keeps the names that are kept
pub record IsKeeping (keep : Kept) (rows : List (List ℕ × ℕ)) (keeping : Keeping) : Type 0 where
  pub names_are : (name : List ℕ) → keeps keeping name ≡ is_kept keep rows name

-- ---- on the hosts of a site

abbrev pub users_on : List Host → List (List ℕ × ℕ)
users_on hosts = flat_map (λ host. user_rows host.users) hosts

abbrev pub groups_on : List Host → List (List ℕ × ℕ)
groups_on hosts = flat_map (λ host. group_rows host.groups) hosts

abbrev pub is_kept_user : KeepText → List Host → List ℕ → Bool
is_kept_user keep hosts = is_kept keep.users (users_on hosts)

abbrev pub is_kept_group : KeepText → List Host → List ℕ → Bool
is_kept_group keep hosts = is_kept keep.groups (groups_on hosts)
