-- The files of a plan's records, as a tree in memory that writes through.
-- Source: this project's own rule.
use Rattle.std.specs.Prelude.{ℕ, List, [], ◌∷◌, Option, None, Some, map, position}
use Rattle.std.specs.Prelude.{slice_index_or, slice_set, Contains, refl}
use Rattle.std.proofs.Common.{arith}
use Rattle.std.specs.Option.{option_and_then, option_map_or, option_or}
use Rattle.std.specs.Str.{bytes_eq}
use Rattle.mtree_inv.specs.declared.entry.Entry.{Entry}
use Rattle.reown_plan.specs.declared.mark.PlanMark.{PlanMark}
use Rattle.reown_plan.specs.declared.plan.Owner.{Owner}
use Rattle.reown_plan.specs.Owners.{owner_of}
use Rattle.reown_runner.specs.Memory.{owner_in}
use Rattle.reown_plan.specs.Mark.{is_marked_for}
use Rattle.reown_runner.specs.Tree.{TreeData, IsReadable, cells_of}

-- the paths of the records, the owner of each where its file is there, the mark, and how many
-- writes and syncs were asked for
pub record FilesOfPlan : Type 0 where
  pub paths : List (List ℕ)
  pub owners : List (Option Owner)
  pub mark : Option PlanMark
  pub asked : ℕ

-- the owner of a file, if it is a record's and is there
abbrev pub owner_at : FilesOfPlan → List ℕ → Option Owner
owner_at t path =
    option_and_then (λ place. slice_index_or t.owners place None)
    (position (bytes_eq path) t.paths)

-- nothing is pending at any time: a stop leaves what is read
abbrev pub known_files : FilesOfPlan → TreeData
known_files t =
    record {
      owner = owner_at t;
      owners_left = λ path. owner_at t path ∷ [];
      mark = t.mark;
      marks_left = t.mark ∷ [];
      faults = 0;
      asked = t.asked;
    }

-- those of the paths that are among files, as these tell, marked for no plan
abbrev pub found_among : List Entry → List (List ℕ) → FilesOfPlan
found_among files paths =
    record { paths = paths; owners = map (owner_in files) paths; mark = None; asked = 0 }

-- the same tree with a file of an inventory noted: where it is a record's, and none was there yet,
-- it is there now, with the owner that it tells
abbrev pub with_noted : Entry → FilesOfPlan → FilesOfPlan
with_noted file t =
    record t {
      owners = option_map_or
          (λ place. slice_set t.owners place
          (option_or (slice_index_or t.owners place None) (Some (owner_of file))))
          (position (bytes_eq file.path) t.paths) t.owners;
    }

pub only_one : {X : Type 0} (a : X) → Contains (a ∷ []) a
only_one a = (0, omega arith, refl)

pub readable_files : (t : FilesOfPlan) (plan : PlanMark)
    → IsReadable (cells_of plan (known_files t))
readable_files t plan =
    record {
      owner = λ path. only_one (owner_at t path);
      mark = only_one (is_marked_for plan t.mark);
    }
