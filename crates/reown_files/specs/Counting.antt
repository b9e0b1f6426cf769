-- The files of a plan, counted.
-- Source: this project's own rule.
use Rattle.std.specs.Prelude.{◌≡◌, ℕ, ◌+◌, Bool, false, not, ◌&&◌, List, ◌∷◌, ◌++◌}
use Rattle.std.specs.Prelude.{Option, None, Some, is_none, slice_get, take, map, reverse}
use Rattle.std.specs.Prelude.{count_by, if◌then◌else◌}
use Rattle.reown_plan.specs.Owners.{owner_eq}
use Rattle.reown_plan.specs.PlanData.{PlanRecord}
use Rattle.reown_files.specs.declared.answers.OpenFault.{OpenFault}
use Rattle.reown_files.specs.declared.answers.OpenFault.TheVariants.{File}
use Rattle.reown_files.specs.declared.answers.Seen.{Seen}
use Rattle.reown_files.specs.declared.counting.OwnerCounts.{OwnerCounts}
use Rattle.reown_files.specs.Calls.{Called, Looked, NotSeen}

-- a record, and what was seen of its file
abbrev pub Look : Type 0
Look = PlanRecord × Option Seen

abbrev pub is_missing : Look → Bool
is_missing (r, seen) = is_none seen

abbrev pub is_before : Look → Bool
is_before (r, None) = false
is_before (r, Some seen) = owner_eq seen.owner r.before

abbrev pub is_after : Look → Bool
is_after (r, None) = false
is_after (r, Some seen) = not (owner_eq seen.owner r.before) && owner_eq seen.owner r.after

-- it has neither of its two owners
abbrev pub is_foreign : Look → Bool
is_foreign (r, None) = false
is_foreign (r, Some seen) = not (owner_eq seen.owner r.before) && not (owner_eq seen.owner r.after)

abbrev pub has_set_id : Look → Bool
has_set_id (r, None) = false
has_set_id (r, Some seen) = seen.has_set_id

abbrev pub has_several_names : Look → Bool
has_several_names (r, None) = false
has_several_names (r, Some seen) = seen.has_several_names

abbrev pub counts_of : List Look → OwnerCounts
counts_of looks =
    record {
      before = count_by is_before looks;
      after = count_by is_after looks;
      missing = count_by is_missing looks;
      foreign = count_by is_foreign looks;
      set_id = count_by has_set_id looks;
      linked = count_by has_several_names looks;
    }

abbrev pub one : Bool → ℕ
one b = if b then 1 else 0

-- one look more
abbrev pub with_one : Look → OwnerCounts → OwnerCounts
with_one look counts =
    record {
      before = counts.before + one (is_before look);
      after = counts.after + one (is_after look);
      missing = counts.missing + one (is_missing look);
      foreign = counts.foreign + one (is_foreign look);
      set_id = counts.set_id + one (has_set_id look);
      linked = counts.linked + one (has_several_names look);
    }

-- how many files were counted
abbrev pub files_of : OwnerCounts → ℕ
files_of counts = counts.before + counts.after + counts.missing + counts.foreign

-- the call that a look is
abbrev pub call_of : Look → Called
call_of (r, seen) = Looked r.path seen

-- the file of each of these records was looked at once, in order, and no other call was made
abbrev pub AreLookedAt : List PlanRecord → List Called → List Called → Type 0
AreLookedAt records old new =
    (looks : List Look) × (map (λ look. look.0) looks ≡ records)
    × (new ≡ reverse (map call_of looks) ++ old)

-- the file of a record could not be looked at, for this: those before it were, and no other call
-- was made
abbrev pub StopsCount : List PlanRecord → List Called → List Called → OpenFault → Type 0
StopsCount records old new (File i trouble) =
    (r : PlanRecord) × (slice_get records i ≡ Some r) × (calls : List Called)
    × AreLookedAt (take i records) old calls × (new ≡ NotSeen r.path trouble ∷ calls)
StopsCount records old new _ = ⊥

-- the file of each record was looked at once, in order, and no other call was made; and so the
-- files are counted
abbrev pub IsCount : List PlanRecord → List Called → List Called → OwnerCounts → Type 0
IsCount records old new counts =
    (looks : List Look) × (map (λ look. look.0) looks ≡ records)
    × (new ≡ reverse (map call_of looks) ++ old) × (counts ≡ counts_of looks)
