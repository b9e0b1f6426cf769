-- The pins text: its pairs, or its first fault.
-- Source: this product's own formats.
use Rattle.std.specs.Prelude.{ℕ, Bool, true, false, not, ◌&&◌, ◌==◌, List, [], length, Option, Some}
use Rattle.std.specs.Prelude.{None, is_some, Result, if◌then◌else◌, flat_map, nat_lt}
use Rattle.std.specs.List.{list_any}
use Rattle.idtext.specs.First.{first_fault, unless}
use Rattle.idtext.specs.Faults.{line_number}
use Rattle.idtext.specs.Pieces.{lines}
use Rattle.hosts_join.specs.Accounts.{Pair}
use Rattle.hosts_join.specs.Pairs.{number_of}
use Rattle.hosts_join.specs.PairLines.{pair_line_of, user_pair, group_pair}
use Rattle.hosts_join.specs.PinPairs.{PinPairs}
use Rattle.hosts_join.specs.declared.Which.TheVariants.{User, Group}
use Rattle.hosts_join.specs.declared.pair_lines.PairLine.{PairLine}
use Rattle.hosts_join.specs.declared.pair_lines.PairLine.TheVariants.{Skipped, Wrong, Given}
use Rattle.hosts_join.specs.declared.fault.PinsFault.{PinsFault}
use Rattle.hosts_join.specs.declared.fault.PinsFault.TheVariants.{BadPins, Memory}

-- the fault that an error tells, or None for want of memory
abbrev pub pins_told : PinsFault → Option PinsFault
pins_told Memory = None
pins_told f = Some f

-- the pairs of each kind that these lines give, in the order of the lines; they reserve nothing
abbrev pub pins_on : List (List ℕ) → PinPairs
pins_on lines = record {
  users = flat_map (λ line. user_pair (pair_line_of line)) lines;
  groups = flat_map (λ line. group_pair (pair_line_of line)) lines;
  reserved_users = [];
  reserved_groups = [];
}

-- neither the name nor the number stands in a pair
abbrev pub is_new_pin : List Pair → List ℕ → ℕ → Bool
is_new_pin pairs name number =
    not (list_any (λ p. number == p.number) pairs) && not (is_some (number_of pairs name))

-- whether a line may stand after lines that give these pairs
abbrev pub may_stand : PinPairs → PairLine → Bool
may_stand had Skipped = true
may_stand had Wrong = false
may_stand had (Given User name number) = is_new_pin had.users name number
may_stand had (Given Group name number) = is_new_pin had.groups name number

-- a line past the 1048576th, skipped or not, or one that may not stand there
abbrev pub pins_fault : List (List ℕ) → List ℕ → Option PinsFault
pins_fault before line =
    if nat_lt (length before) 1048576 && may_stand (pins_on before) (pair_line_of line) then None
    else Some (BadPins (line_number (length before)))

-- what a pins text says, or its first fault
unfoldable pub pins_of : List ℕ → Result PinPairs PinsFault
pins_of text = unless (first_fault pins_fault [] (lines text)) (pins_on (lines text))
