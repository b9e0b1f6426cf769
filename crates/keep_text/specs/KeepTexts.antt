-- The keep text: what stays as it is on each host, or its first fault.
-- Source: this project's own formats.
use Rattle.std.specs.Prelude.{ℕ, Bool, true, false, not, List, [], ◌∷◌, length, flat_map}
use Rattle.std.specs.Prelude.{Option, Some, None, Result, bytes_eq, if◌then◌else◌}
use Rattle.std.specs.List.{list_any}
use Rattle.idtext.specs.First.{first_fault, unless}
use Rattle.idtext.specs.Faults.{line_number}
use Rattle.idtext.specs.Pieces.{lines as lines_of}
use Rattle.logindefs.specs.declared.ranges.IdRange.{IdRange}
use Rattle.hosts_join.specs.declared.Which.TheVariants.{User, Group}
use Rattle.keep_text.specs.declared.keep_line.Said.{Said}
use Rattle.keep_text.specs.declared.keep_line.Said.TheVariants.{Name, Range, Unowned}
use Rattle.keep_text.specs.declared.keep_line.KeepLine.{KeepLine}
use Rattle.keep_text.specs.declared.keep_line.KeepLine.TheVariants.{Skipped, Wrong, Given}
use Rattle.keep_text.specs.declared.keep_text.Kept.{Kept}
use Rattle.keep_text.specs.declared.keep_text.KeepText.{KeepText}
use Rattle.keep_text.specs.declared.keep_text.KeepFault.{KeepFault}
use Rattle.keep_text.specs.declared.keep_text.KeepFault.TheVariants.{BadKeep, Memory}
use Rattle.keep_text.specs.KeepLines.{keep_line_of}

-- the fault that an error tells, or none for want of memory
abbrev pub keep_told : KeepFault → Option KeepFault
keep_told Memory = None
keep_told (BadKeep line) = Some (BadKeep line)

-- ---- what lines say

-- what a line says of users, and what it says of groups
abbrev pub of_users : KeepLine → List Said
of_users (Given User said) = said ∷ []
of_users (Given Group said) = []
of_users Skipped = []
of_users Wrong = []

abbrev pub of_groups : KeepLine → List Said
of_groups (Given Group said) = said ∷ []
of_groups (Given User said) = []
of_groups Skipped = []
of_groups Wrong = []

abbrev pub name_said : Said → List (List ℕ)
name_said (Name name) = name ∷ []
name_said (Range range) = []
name_said Unowned = []

abbrev pub range_said : Said → List IdRange
range_said (Range range) = range ∷ []
range_said (Name name) = []
range_said Unowned = []

abbrev pub is_unowned : Said → Bool
is_unowned Unowned = true
is_unowned (Name name) = false
is_unowned (Range range) = false

-- the names and the ranges of one kind, in the order of their lines, and whether numbers without
-- an account stay
abbrev pub kept_by : List Said → Kept
kept_by all = record {
  names = flat_map name_said all;
  ranges = flat_map range_said all;
  unowned = list_any is_unowned all;
}

abbrev pub nothing_kept : Kept
nothing_kept = kept_by []

abbrev pub kept_on : List (List ℕ) → KeepText
kept_on lines = record {
  users = kept_by (flat_map (λ line. of_users (keep_line_of line)) lines);
  groups = kept_by (flat_map (λ line. of_groups (keep_line_of line)) lines);
}

-- ---- the first fault

-- a name is listed once for its kind, and `unowned` is said once of it; ranges may share numbers
abbrev pub is_new : Kept → Said → Bool
is_new had (Name name) = not (list_any (bytes_eq name) had.names)
is_new had (Range range) = true
is_new had Unowned = not had.unowned

-- whether a line may stand after lines that say this
abbrev pub may_stand : KeepText → KeepLine → Bool
may_stand had Skipped = true
may_stand had Wrong = false
may_stand had (Given User said) = is_new had.users said
may_stand had (Given Group said) = is_new had.groups said

abbrev pub keep_fault : List (List ℕ) → List ℕ → Option KeepFault
keep_fault before line =
    if may_stand (kept_on before) (keep_line_of line) then None
    else Some (BadKeep (line_number (length before)))

-- what a keep text says, or its first fault
unfoldable pub keep_of : List ℕ → Result KeepText KeepFault
keep_of text = unless (first_fault keep_fault [] (lines_of text)) (kept_on (lines_of text))
