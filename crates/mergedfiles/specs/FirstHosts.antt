-- Which host's row of a name counts, in other words.
-- Source: this project's own rule.
use Rattle.std.specs.Prelude.{◌≡◌, ◌≢◌, ℕ, List, ◌∷◌, ◌++◌, Some, All, Contains}
use Rattle.hosts_join.specs.declared.host.Host.{Host}
use Rattle.mergedfiles.specs.Rows.{UserRow, GroupRow, users_named, groups_named, first_of}

-- Of all hosts that have a row of the name, this is the first one, and the row is its row.
-- rows: the rows of a host; name_of: the name that a row has
pub record IsOfFirstHost {Row : Type 0} (rows : Host → List Row) (name_of : Row → List ℕ)
    (name : List ℕ) (hosts : List Host) (host : Host) (row : Row) : Type 0 where
  pub before : List Host
  pub behind : List Host
  pub order : hosts ≡ before ++ host ∷ behind
  pub none_before : All (λ other. All (λ row. name_of row ≢ name) (rows other)) before
  pub has : Contains (rows host) row
  pub named : name_of row ≡ name

-- the row that counts for a user is that of the first host with this user
abbrev pub FirstHostDecidesUsers : Type 0
FirstHostDecidesUsers =
    (name : List ℕ) (hosts : List Host) (first : UserRow)
    → first_of (users_named name hosts) ≡ Some first
    → IsOfFirstHost (λ host. host.users) (λ row. row.name) name hosts first.host first.row

-- and for a group that of the first host with this group
abbrev pub FirstHostDecidesGroups : Type 0
FirstHostDecidesGroups =
    (name : List ℕ) (hosts : List Host) (first : GroupRow)
    → first_of (groups_named name hosts) ≡ Some first
    → IsOfFirstHost (λ host. host.groups) (λ row. row.name) name hosts first.host first.row
