-- A plan, taken back.
-- Source: this project's own rule.
use Rattle.std.specs.Prelude.{List, map}
use Rattle.mtree_inv.specs.declared.entry.Entry.{Entry}
use Rattle.reown_plan.specs.declared.plan.Owner.{Owner}
use Rattle.reown_plan.specs.PlanData.{PlanRecord, PlanData}

-- the record that gives the file back what it had
abbrev pub reversed_record : PlanRecord → PlanRecord
reversed_record r = record { before = r.after; after = r.before; path = r.path }

abbrev pub reversed_records : List PlanRecord → List PlanRecord
reversed_records records = map reversed_record records

-- the plan that takes a plan back: of the same host, its records in the same order, each with old
-- and new owner exchanged
abbrev pub reversed : PlanData → PlanData
reversed plan = record { host = plan.host; records = reversed_records plan.records }

-- a file at another owner
abbrev pub at_owner : Owner → Entry → Entry
at_owner owner file = record { path = file.path; uid = owner.uid; gid = owner.gid }
