-- What search trees have of files: of their names, where they have several, and of their modes.
-- Keys that own their bytes, and their order: words of the code and not of the subject.
use Rattle.std.specs.Prelude.{◌≡◌, ℕ, Bool, List, Option, None, Some, Vec}
use Rattle.std.specs.Prelude.{Result, Ok, is_some, if◌then◌else◌}
use Rattle.std.specs.declared.alloc.Global.{Global}
use Rattle.std.specs.declared.cmp.Ordering.{Ordering}
use Rattle.std.specs.Ordering.{nat_cmp, ordering_then}
use Rattle.std.specs.Cmp.Lexicographic.{slice_cmp}
use Rattle.std.specs.BTreeMap.{BTreeMap, get, is_at}
use Rattle.std.specs.Map.{lookup}
use Rattle.std.specs.BTreeSet.{BTreeSet, contains_by}
use Rattle.reown_plan.specs.declared.mark.PlanMark.{PlanMark}
use Rattle.idtext.specs.Pieces.{lines}
use Rattle.reown_plan.specs.Mark.{mark_eq}
use Rattle.reown_files.specs.declared.names.Names.{Names}
use Rattle.reown_files.specs.Looks.{FileId}
use Rattle.reown_files.specs.declared.answers.Trouble.{Trouble}
use Rattle.reown_files.specs.Actions.{Action, modes_read}
use Rattle.reown_files.specs.MarkText.{Entry, mode_in, lines_read, lines_told}

-- the order of files, by device and inode
abbrev pub id_cmp : FileId → FileId → Ordering
id_cmp a b = ordering_then (nat_cmp a.0 b.0) (nat_cmp a.1 b.1)

abbrev pub names_at : BTreeMap FileId Names → FileId → Option Names
names_at tree id = get id_cmp tree id

abbrev pub has_path : BTreeSet (Vec ℕ Global) → List ℕ → Bool
has_path tree path = contains_by (λ key. slice_cmp nat_cmp path key.items) tree

abbrev pub mode_at : List (Vec ℕ Global × ℕ) → List ℕ → Option ℕ
mode_at entries path = lookup (is_at (λ key. slice_cmp nat_cmp path key.items)) entries

-- the mode that was read of a plan for a file; none where none was read, or those of another plan
abbrev pub mode_noted_for
    : Option PlanMark → List (Vec ℕ Global × ℕ) → PlanMark → List ℕ → Option ℕ
mode_noted_for None entries plan path = None
mode_noted_for (Some read) entries plan path =
    if mark_eq read plan then mode_at entries path else None

-- the modes are those that the lines of a text say
abbrev pub HasModesOf : List ℕ → List (Vec ℕ Global × ℕ) → Type 0
HasModesOf text tree =
    (entries : List Entry) × (lines_read (lines text) ≡ Some entries)
    × ((path : List ℕ) → mode_at tree path ≡ mode_in entries path)

-- modes were read of these lines of this plan; where there are none, those that were read before
-- stay
abbrev pub HasRead
    : PlanMark → Option (List ℕ) → Option PlanMark → List (Vec ℕ Global × ℕ) → Option PlanMark
    → List (Vec ℕ Global × ℕ) → Type 0
HasRead plan None old entries new now = (new ≡ old) × (now ≡ entries)
HasRead plan (Some lines) old entries new now = (new ≡ Some plan) × HasModesOf lines now

-- what the files of the modes and of the mark tell a plan was told, and no refusal: whether there
-- are modes of it, and these were read where its mark was not there
abbrev pub IsTold
    : PlanMark → Result (Option (List ℕ)) Trouble → Bool → Bool → Option PlanMark
    → List (Vec ℕ Global × ℕ) → Option PlanMark → List (Vec ℕ Global × ℕ) → Type 0
IsTold plan told set begun old entries new now =
    (lines : Option (List ℕ)) × (told ≡ Ok lines) × (begun ≡ is_some lines)
    × HasRead plan (if set then None else lines) old entries new now

-- the file of the modes was read, and where it is there that of the mark; and their texts tell it
abbrev pub AreRead
    : List ℕ → List ℕ → PlanMark → Bool → Bool → List Action → List Action → Option PlanMark
    → List (Vec ℕ Global × ℕ) → Option PlanMark → List (Vec ℕ Global × ℕ) → Type 0
AreRead mark modes plan set begun before after old entries new now =
    (text beside : Option (List ℕ)) × (after ≡ modes_read mark modes beside text before)
    × IsTold plan (lines_told plan beside text) set begun old entries new now
