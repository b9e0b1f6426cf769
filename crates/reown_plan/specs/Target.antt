-- The owners that the files of a host get.
-- Source: this project's own rule.
use Rattle.std.specs.Prelude.{ℕ, not, List, [], map, filter, Option, Some, None, find, bytes_eq}
use Rattle.std.specs.Prelude.{slice_index_or}
use Rattle.hosts_join.specs.Accounts.{Accounts, owner}
use Rattle.hosts_join.specs.Site.{Joined}
use Rattle.hosts_join.specs.declared.host.Host.{Host}
use Rattle.mtree_inv.specs.declared.entry.Entry.{Entry}
use Rattle.ownership.specs.Mappings.{number_under}
use Rattle.ownership.specs.declared.mapping.Mappings.{Mappings}
use Rattle.reown_plan.specs.declared.plan.Owner.{Owner}
use Rattle.reown_plan.specs.Owners.{owner_of, owner_eq}
use Rattle.reown_plan.specs.PlanData.{PlanRecord, PlanData}

-- the new number of the name that has the number on the host; it stays where no name has it
abbrev pub renumbered : Accounts → List ℕ → ℕ → ℕ → ℕ
renumbered a m host v = number_under m (owner a.names host v) v

-- what a file gets: the new number of its user's name, and that of its group's name
abbrev pub target : Joined → Mappings → ℕ → Entry → Owner
target site m host file =
    record {
      uid = renumbered site.users m.users host file.uid;
      gid = renumbered site.groups m.groups host file.gid;
    }

-- the record of a file
abbrev pub record_to : (Entry → Owner) → Entry → PlanRecord
record_to to file = record { before = owner_of file; after = to file; path = file.path }

-- the records of the files that get another owner than they have, in the order of the inventory
abbrev pub records_to : (Entry → Owner) → List Entry → List PlanRecord
records_to to files = map (record_to to) (filter (λ f. not (owner_eq (owner_of f) (to f))) files)

-- the records of a host's plan
abbrev pub plan_of : Joined → Mappings → ℕ → List Entry → List PlanRecord
plan_of site m host files = records_to (target site m host) files

-- the name of the host at an index
abbrev pub name_at : List Host → ℕ → List ℕ
name_at hosts host = slice_index_or (map (λ h. h.name) hosts) host []

-- the plan of the host at an index
abbrev pub host_plan : List Host → Joined → Mappings → ℕ → List Entry → PlanData
host_plan hosts site m host files =
    record { host = name_at hosts host; records = plan_of site m host files }

-- the owner that a file has after a plan: the new one of its record, else the one that it has
abbrev pub after_record : Option PlanRecord → Owner → Owner
after_record None has = has
after_record (Some r) has = r.after

abbrev pub owner_after : List PlanRecord → Entry → Owner
owner_after records file =
    after_record (find (λ r. bytes_eq file.path r.path) records) (owner_of file)
