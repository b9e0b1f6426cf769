-- What the plans of a site's hosts rewrite.
-- Source: chown(2) (an owner is a uid with a gid); what is counted is this project's own rule.
use Rattle.std.specs.Prelude.{◌≡◌, ℕ, Bool, not, ◌==◌, List, [], length, map, count_by}
use Rattle.std.specs.Prelude.{slice_index_or}
use Rattle.mtree_inv.specs.declared.entry.Entry.{Entry}
use Rattle.ownership.specs.Sums.{sum_below}
use Rattle.ownership.specs.declared.mapping.Mappings.{Mappings}
use Rattle.reown_plan.specs.PlanData.{PlanRecord}
use Rattle.reown_plan.specs.Target.{plan_of}
use Rattle.unify.specs.declared.counting.Cost.{Cost}
use Rattle.unify.specs.Outcomes.{cost_in}
use Rattle.unify.specs.Reading.{WholeSite}

-- the record gives its file another uid
abbrev pub changes_uid : PlanRecord → Bool
changes_uid record_of = not (record_of.before.uid == record_of.after.uid)

-- another gid
abbrev pub changes_gid : PlanRecord → Bool
changes_gid record_of = not (record_of.before.gid == record_of.after.gid)

-- how many records of the plans of so many hosts change the uid of their file, and how many the
-- gid, where each host has these records
abbrev pub rewritten_by : (ℕ → List PlanRecord) → ℕ → Cost
rewritten_by records hosts =
    record {
      users = sum_below (λ host. count_by changes_uid (records host)) hosts;
      groups = sum_below (λ host. count_by changes_gid (records host)) hosts;
    }

-- the files of the host at the index
abbrev pub files_at : WholeSite → ℕ → List Entry
files_at site host = slice_index_or (map (λ here. here.1) site.hosts) host []

-- what the plans of all hosts rewrite
abbrev pub rewritten : WholeSite → Mappings → Cost
rewritten site m =
    rewritten_by (λ host. plan_of site.joined m host (files_at site host)) (length site.hosts)

-- the cost that is told of mappings is this
abbrev pub PlansRewriteTheCost : Type 0
PlansRewriteTheCost = (site : WholeSite) (m : Mappings) → cost_in site m ≡ rewritten site m
