-- A tree in memory: for each cell the value at the last sync and the value now.
-- Source: this project's own rule.
use Rattle.std.specs.Prelude.{◌≡◌, ℕ, ◌%◌, ◌==◌, Bool, true, false, not, List, [], ◌∷◌, Option}
use Rattle.std.specs.Prelude.{None, Some, map, take, length, ◌<◌, slice_index_or, count_by}
use Rattle.std.specs.Prelude.{position, slice_get, slice_set, find, if◌then◌else◌}
use Rattle.std.specs.Option.{option_map, option_and_then}
use Rattle.std.specs.Str.{bytes_eq}
use Rattle.mtree_inv.specs.declared.entry.Entry.{Entry}
use Rattle.reown_plan.specs.declared.mark.PlanMark.{PlanMark}
use Rattle.reown_plan.specs.declared.plan.Owner.{Owner}
use Rattle.reown_plan.specs.Owners.{owner_of, owner_eq}
use Rattle.reown_runner.specs.Tree.{TreeData, counted}
use Rattle.reown_runner.specs.declared.memory.Keep.{Keep}
use Rattle.reown_runner.specs.declared.memory.Keep.TheVariants.{All, Lost, Alternate, MarkOnly}
use Rattle.reown_runner.specs.declared.memory.FileCell.{FileCell}

-- the paths in order of the inventory, the cell of each, the mark at the last sync and now, which
-- values of a stop are kept, and how many writes and syncs were asked for
pub record Mem : Type 0 where
  pub paths : List (List ℕ)
  pub cells : List FileCell
  pub mark_synced : Option PlanMark
  pub mark_now : Option PlanMark
  pub keep : Keep
  pub asked : ℕ

-- the cell of a path, if there is one
abbrev pub cell_of : Mem → List ℕ → Option FileCell
cell_of m path = option_and_then (slice_get m.cells) (position (bytes_eq path) m.paths)

-- a stop may leave either value, and no file where there is none
abbrev pub values_of : Option FileCell → List (Option Owner)
values_of None = None ∷ []
values_of (Some c) = Some c.synced ∷ Some c.now ∷ []

abbrev pub known_mem : Mem → TreeData
known_mem m =
    record {
      owner = λ path. option_map (λ c. c.now) (cell_of m path);
      owners_left = λ path. values_of (cell_of m path);
      mark = m.mark_now;
      marks_left = m.mark_synced ∷ m.mark_now ∷ [];
      faults = 0;
      asked = m.asked;
    }

-- whether a cell has changed since the last sync
abbrev pub is_pending : FileCell → Bool
is_pending c = not (owner_eq c.synced c.now)

-- of the pending cells the first, third, fifth and so on: those with an even number of pending
-- cells before them
abbrev pub is_odd_one : List FileCell → Bool
is_odd_one before = count_by is_pending before % 2 == 0

-- whether a stop keeps what is pending in a file's cell, after these other cells
abbrev pub keeps_file : Keep → List FileCell → Bool
keeps_file All before = true
keeps_file Lost before = false
keeps_file Alternate before = is_odd_one before
keeps_file MarkOnly before = false

-- whether it keeps a pending mark, after all files' cells
abbrev pub keeps_mark : Keep → List FileCell → Bool
keeps_mark All before = true
keeps_mark Lost before = false
keeps_mark Alternate before = is_odd_one before
keeps_mark MarkOnly before = true

-- a cell with this value at the last sync and now
abbrev pub settled_cell : Owner → FileCell
settled_cell owner = record { synced = owner; now = owner }

-- a write: the file at the path has this owner now, and nothing else changes
abbrev pub IsWritten : List ℕ → Owner → Mem → Mem → Type 0
IsWritten path owner old new =
    (i : ℕ) × (position (bytes_eq path) old.paths ≡ Some i)
    × ((c : FileCell) × (slice_get old.cells i ≡ Some c)
    × (new ≡ record old {
      cells = slice_set old.cells i (record { synced = c.synced; now = owner });
      asked = counted old.asked;
    }))

-- the mark's write: it is this plan's now, and nothing else changes
abbrev pub marked : PlanMark → Mem → Mem
marked plan m = record m { mark_now = Some plan; asked = counted m.asked }

-- a sync: what is there now is synced, and nothing else changes
abbrev pub settled : Mem → Mem
settled m =
    record m {
      cells = map (λ c. settled_cell c.now) m.cells;
      mark_synced = m.mark_now;
      asked = counted m.asked;
    }

-- what a stop leaves in a file's cell
abbrev pub left_cell : Bool → FileCell → FileCell
left_cell kept c = settled_cell (if kept then c.now else c.synced)

-- a stop leaves in each cell what the choice keeps
pub record IsReopened (old new : Mem) : Type 0 where
  pub paths : new.paths ≡ old.paths
  pub as_many : length new.cells ≡ length old.cells
  pub cells : (k : ℕ) (d : FileCell) → k < length old.cells
      → slice_index_or new.cells k d
      ≡ left_cell (keeps_file old.keep (take k old.cells)) (slice_index_or old.cells k d)
  pub mark : new.mark_now
      ≡ (if keeps_mark old.keep old.cells then old.mark_now else old.mark_synced)
  pub mark_synced : new.mark_synced ≡ new.mark_now
  pub keep : new.keep ≡ old.keep
  pub asked : new.asked ≡ old.asked

-- a tree as its inventory: each file at its owner, marked for no plan, nothing pending
abbrev pub new_mem : List Entry → Mem
new_mem files =
    record {
      paths = map (λ e. e.path) files;
      cells = map (λ e. settled_cell (owner_of e)) files;
      mark_synced = None;
      mark_now = None;
      keep = All;
      asked = 0;
    }

-- the owner of a file in an inventory
abbrev pub owner_in : List Entry → List ℕ → Option Owner
owner_in files path = option_map owner_of (find (λ e. bytes_eq path e.path) files)
