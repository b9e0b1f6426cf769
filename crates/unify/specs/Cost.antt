-- How many user and group fields change.
-- Source: the assignment problem (least cost); what is counted is this project's own rule.
use Rattle.std.specs.Prelude.{ℕ, Bool, false, List, Option, Some, None, if◌then◌else◌, ◌==◌, sum_by}
use Rattle.mtree_inv.specs.declared.entry.Entry.{Entry}
use Rattle.unify_texts.specs.declared.map_text.MapText.{MapText}
use Rattle.hosts_join.specs.Accounts.{Pair}
use Rattle.hosts_join.specs.Pairs.{number_of}
use Rattle.unify.specs.declared.counting.Cost.{Cost}
use Rattle.hosts_join.specs.declared.host.Host.{Host}
use Rattle.hosts_join.specs.Kinds.{user_at, group_at}

abbrev pub is_number : Option ℕ → ℕ → Bool
is_number None n = false
is_number (Some m) n = m == n

-- one if the mapping of a file's owner differs from the number that the file has
abbrev pub changed : List Pair → Option (List ℕ) → ℕ → ℕ
changed mapping None number = 0
changed mapping (Some owner) number = if is_number (number_of mapping owner) number then 0 else 1

-- the changed fields of a host's files
abbrev pub users_changed : MapText → Host → List Entry → ℕ
users_changed map host files =
    sum_by (λ file. changed map.users (user_at host.users file.uid) file.uid) files

abbrev pub groups_changed : MapText → Host → List Entry → ℕ
groups_changed map host files =
    sum_by (λ file. changed map.groups (group_at host.groups file.gid) file.gid) files

-- the cost of one host's files
abbrev pub host_cost : MapText → Host → List Entry → Cost
host_cost map host files =
    record { users = users_changed map host files; groups = groups_changed map host files }

-- the cost: over every file of every host
abbrev pub cost_of : MapText → List (Host × List Entry) → Cost
cost_of map sites =
    record {
      users = sum_by (λ site. users_changed map site.0 site.1) sites;
      groups = sum_by (λ site. groups_changed map site.0 site.1) sites;
    }
