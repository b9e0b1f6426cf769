-- The map text: the pairs of its lines, or its first fault.
-- Source: this project's own formats.
use Rattle.std.specs.Prelude.{ℕ, Bool, true, false, not, List, [], length, Option, Some, None}
use Rattle.std.specs.Prelude.{is_some, Result, if◌then◌else◌, flat_map}
use Rattle.idtext.specs.First.{first_fault, unless}
use Rattle.idtext.specs.Faults.{line_number}
use Rattle.idtext.specs.Pieces.{lines as lines_of}
use Rattle.hosts_join.specs.Pairs.{number_of}
use Rattle.hosts_join.specs.PairLines.{pair_line_of, user_pair, group_pair}
use Rattle.hosts_join.specs.declared.Which.TheVariants.{User, Group}
use Rattle.hosts_join.specs.declared.pair_lines.PairLine.{PairLine}
use Rattle.hosts_join.specs.declared.pair_lines.PairLine.TheVariants.{Skipped, Wrong, Given}
use Rattle.unify_texts.specs.declared.fault.Fault.{Fault}
use Rattle.unify_texts.specs.declared.fault.Fault.TheVariants.{BadMap}
use Rattle.unify_texts.specs.declared.map_text.MapText.{MapText}

-- the pairs of each kind, in the order of their lines
abbrev pub numbering_of : List (List ℕ) → MapText
numbering_of lines =
    record {
      users = flat_map (λ line. user_pair (pair_line_of line)) lines;
      groups = flat_map (λ line. group_pair (pair_line_of line)) lines;
    }

-- whether a line may stand after lines that give these pairs
abbrev pub is_good_after : MapText → PairLine → Bool
is_good_after had Skipped = true
is_good_after had Wrong = false
is_good_after had (Given User name n) = not (is_some (number_of had.users name))
is_good_after had (Given Group name n) = not (is_some (number_of had.groups name))

abbrev pub map_fault : List (List ℕ) → List ℕ → Option Fault
map_fault before line =
    if is_good_after (numbering_of before) (pair_line_of line) then None
    else Some (BadMap (line_number (length before)))

-- what a map text says, or its first fault
unfoldable pub map_of : List ℕ → Result MapText Fault
map_of text = unless (first_fault map_fault [] (lines_of text)) (numbering_of (lines_of text))
