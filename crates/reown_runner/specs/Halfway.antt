-- A tree that has only the files of a plan, as an earlier run may have left them.
-- Source: this project's own rule.
use Rattle.std.specs.Prelude.{◌≡◌, ◌⊎◌, ℕ, ◌<◌, Bool, true, List, Option, map, length, find}
use Rattle.std.specs.Prelude.{slice_index_or}
use Rattle.std.specs.Option.{option_map}
use Rattle.std.specs.Str.{bytes_eq}
use Rattle.reown_plan.specs.declared.mark.PlanMark.{PlanMark}
use Rattle.reown_plan.specs.declared.plan.Owner.{Owner}
use Rattle.reown_plan.specs.PlanData.{PlanRecord}
use Rattle.reown_runner.specs.declared.memory.Keep.TheVariants.{All}
use Rattle.reown_runner.specs.declared.runner.Place.TheVariants.{Start}
use Rattle.reown_runner.specs.Tree.{Cells}
use Rattle.reown_runner.specs.Memory.{Mem, settled_cell}
use Rattle.reown_runner.specs.Safe.{IsSafeInStep}

-- the inventory that has just the files of a plan, each at its old owner
abbrev pub planned_in : List PlanRecord → List ℕ → Option Owner
planned_in records path = option_map (λ r. r.before) (find (λ r. bytes_eq path r.path) records)

-- a runner of the plan may start on such a tree: whatever a stop leaves is safe, and nothing is
-- pending
abbrev pub MayGoOn : List PlanRecord → Cells → Type 0
MayGoOn records cells = IsSafeInStep (planned_in records) records Start cells

-- the files of records at these owners, marked for this plan or none, with nothing pending
abbrev pub mem_of_records : List PlanRecord → List Owner → Option PlanMark → Mem
mem_of_records records owners mark =
    record {
      paths = map (λ r. r.path) records;
      cells = map settled_cell owners;
      mark_synced = mark;
      mark_now = mark;
      keep = All;
      asked = 0;
    }

-- the owner is what an earlier run may have left: the old or the new one, and the new one where the
-- mark is set
abbrev pub IsHalfway : PlanRecord → Owner → Bool → Type 0
IsHalfway r owner mark = ((owner ≡ r.before) ⊎ (owner ≡ r.after)) × (mark ≡ true → owner ≡ r.after)

-- and so each of the files
abbrev pub AreHalfway : List PlanRecord → List Owner → Bool → Type 0
AreHalfway records owners mark =
    (k : ℕ) (d : PlanRecord) (o : Owner) → k < length records
    → IsHalfway (slice_index_or records k d) (slice_index_or owners k o) mark
