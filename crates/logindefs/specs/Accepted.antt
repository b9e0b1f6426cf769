-- Which texts of login.defs are accepted, and what is told of any other, in the words of the
-- format.
-- Source: login.defs(5) of the shadow suite, DESCRIPTION (a parameter's name and its value are the
-- words of its line); the limits, and which fault is told, are this project's own rules.
use Rattle.std.specs.Prelude.{◌≡◌, ◌⊎◌, ◌↔◌, ◌<◌, ◌≤◌, ℕ, true, List, [], ◌∷◌, Some, Ok, Err}
use Rattle.std.specs.Prelude.{length, slice_get, codes}
use Rattle.std.specs.List.{Contains}
use Rattle.idtext.specs.declared.faults.TextCode.{TextCode}
use Rattle.idtext.specs.declared.faults.TextCode.TheVariants.{LineTooLong, BadNumber, RangesOverlap}
use Rattle.idtext.specs.declared.faults.TextFault.{TextFault}
use Rattle.idtext.specs.Faults.{line_number}
use Rattle.idtext.specs.Numbers.{c_number_of}
use Rattle.idtext.specs.Pieces.{lines as lines_of}
use Rattle.idtext.specs.Words.{words}
use Rattle.logindefs.specs.declared.ranges.HostRanges.{HostRanges}
use Rattle.logindefs.specs.Parameters.{latest, without_quotes}
use Rattle.logindefs.specs.Ranges.{IsHostRanges, in_range, ranges_by, ranges_of}

-- ---- the lines

-- the names of the parameters that count
abbrev pub eight_names : List (List ℕ)
eight_names =
    codes "UID_MIN" ∷ codes "UID_MAX" ∷ codes "SYS_UID_MIN" ∷ codes "SYS_UID_MAX"
    ∷ codes "GID_MIN" ∷ codes "GID_MAX" ∷ codes "SYS_GID_MIN" ∷ codes "SYS_GID_MAX" ∷ []

-- the first word of the line is one of these names, and its second word is the value
pub record GivesValue (line value : List ℕ) : Type 0 where
  pub name : List ℕ
  pub is_name : Contains eight_names name
  pub more : List (List ℕ)
  pub words_are : words line ≡ name ∷ value ∷ more

-- without double quotes at its ends the value is a number that an account may have
abbrev pub IsNumber : List ℕ → Type 0
IsNumber value = (number : ℕ) × (c_number_of (without_quotes value) ≡ Some number)

-- the line is not too long, and a value that it gives to one of the eight is such a number
pub record MayStand (line : List ℕ) : Type 0 where
  pub short : length line ≤ 65535
  pub number : (value : List ℕ) → GivesValue line value → IsNumber value

-- ---- texts that are accepted

abbrev pub AllMayStand : List (List ℕ) → Type 0
AllMayStand lines =
    (i : ℕ) (line : List ℕ) → slice_get lines i ≡ Some line → MayStand line

-- the ranges that the last value of each parameter gives, or its default
abbrev pub last_ranges : List (List ℕ) → HostRanges
last_ranges lines = ranges_by (λ parameter. latest parameter lines)

-- each line may stand, and the ranges that the last lines give share no number
pub record IsAccepted (text : List ℕ) (ranges : HostRanges) : Type 0 where
  pub lines_may_stand : AllMayStand (lines_of text)
  pub ranges_are : ranges ≡ last_ranges (lines_of text)
  pub apart : IsHostRanges ranges

-- a text gives ranges exactly where it is accepted
abbrev pub RangesAreAccepted : Type 0
RangesAreAccepted =
    (text : List ℕ) (ranges : HostRanges) → (ranges_of text ≡ Ok ranges) ↔ IsAccepted text ranges

-- ---- what is told of any other

-- what is wrong with the line: it is too long, or, where it is not, it gives a value that is no
-- such number
abbrev pub IsWrong : List ℕ → TextCode → Type 0
IsWrong line code =
    ((code ≡ LineTooLong) × (65535 < length line))
    ⊎ ((code ≡ BadNumber) × (length line ≤ 65535)
    × (value : List ℕ) × GivesValue line value × (¬ IsNumber value))

-- the first line that may not stand is told, counted from 1
pub record IsFirstWrong (lines : List (List ℕ)) (fault : TextFault) : Type 0 where
  pub before : ℕ
  pub line : List ℕ
  pub there : slice_get lines before ≡ Some line
  pub good : (i : ℕ) (earlier : List ℕ) → i < before → slice_get lines i ≡ Some earlier
      → MayStand earlier
  pub numbered : fault.line ≡ line_number before
  pub wrong : IsWrong line fault.code

-- each line may stand, and a number is in the regular and in the system range of users or of groups
pub record RangesShare (lines : List (List ℕ)) (fault : TextFault) : Type 0 where
  pub good : AllMayStand lines
  pub whole_text : fault ≡ record { code = RangesOverlap; line = 0 }
  pub number : ℕ
  pub in_both :
      ((in_range (last_ranges lines).uid number ≡ true)
      × (in_range (last_ranges lines).sys_uid number ≡ true))
      ⊎ ((in_range (last_ranges lines).gid number ≡ true)
      × (in_range (last_ranges lines).sys_gid number ≡ true))

-- where a text is refused, its first wrong line is told, or else that ranges share a number
abbrev pub FirstWrongLineIsTold : Type 0
FirstWrongLineIsTold =
    (text : List ℕ) (fault : TextFault) → ranges_of text ≡ Err fault
    → IsFirstWrong (lines_of text) fault ⊎ RangesShare (lines_of text) fault
