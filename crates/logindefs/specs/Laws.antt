-- Laws over the ranges of numbers, in the words of sets.
-- Source: login.defs(5) of the shadow suite for the ranges (the items UID_MIN, UID_MAX,
-- SYS_UID_MIN, SYS_UID_MAX and the same for GID, and their defaults); the laws say that a range is
-- the set of its numbers, and which numbers these are.
use Rattle.std.specs.Prelude.{◌≡◌, ◌<◌, ◌≤◌, ◌&&◌, ◌↔◌, ℕ, IsTrue, MatchOption, Option, count_by}
use Rattle.std.specs.Prelude.{true, unwrap_or}
use Rattle.std.specs.List.{range_with_len}
use Rattle.logindefs.specs.declared.parameters.Parameter.{Parameter}
use Rattle.logindefs.specs.declared.parameters.Parameter.TheVariants.{UidMin, UidMax, SysUidMin}
use Rattle.logindefs.specs.declared.parameters.Parameter.TheVariants.{SysUidMax, GidMin, GidMax}
use Rattle.logindefs.specs.declared.parameters.Parameter.TheVariants.{SysGidMin, SysGidMax}
use Rattle.logindefs.specs.declared.ranges.HostRanges.{HostRanges}
use Rattle.logindefs.specs.declared.ranges.IdRange.{IdRange}
use Rattle.logindefs.specs.Ranges.{in_range, range_len, ranges_by, share}

-- the length of a range is how many numbers lie in it, of all that are below some number above it
abbrev pub LengthCounts : Type 0
LengthCounts =
    (range : IdRange) (above : ℕ) → range.high < above
    → count_by (in_range range) (range_with_len 0 above) ≡ range_len range

-- two ranges share a number exactly where a number lies in both
abbrev pub SharedIsInBoth : Type 0
SharedIsInBoth =
    (r s : IdRange) → IsTrue (share r s)
    ↔ ((number : ℕ) × IsTrue (in_range r number && in_range s number))

-- at least the minimum, by default 1000, and at most the maximum, by default 60000
abbrev pub IsRegular : Option ℕ → Option ℕ → ℕ → Type 0
IsRegular least most number = (unwrap_or least 1000 ≤ number) × (number ≤ unwrap_or most 60000)

-- at least the system minimum, by default 101, and at most the system maximum; where that is not
-- given, below the regular minimum, by default 1000
abbrev pub IsSystem : Option ℕ → Option ℕ → Option ℕ → ℕ → Type 0
IsSystem regular_least least most number =
    (unwrap_or least 101 ≤ number)
    × MatchOption most (number < unwrap_or regular_least 1000) (λ most. number ≤ most)

-- which numbers are in the ranges, by the value that each parameter was given
pub record AreBetween (value : Parameter → Option ℕ) (ranges : HostRanges) (number : ℕ)
    : Type 0 where
  pub uid : (in_range ranges.uid number ≡ true) ↔ IsRegular (value UidMin) (value UidMax) number
  pub sys_uid : (in_range ranges.sys_uid number ≡ true)
      ↔ IsSystem (value UidMin) (value SysUidMin) (value SysUidMax) number
  pub gid : (in_range ranges.gid number ≡ true) ↔ IsRegular (value GidMin) (value GidMax) number
  pub sys_gid : (in_range ranges.sys_gid number ≡ true)
      ↔ IsSystem (value GidMin) (value SysGidMin) (value SysGidMax) number

-- a number is in a range exactly where it is at least the minimum and at most the maximum, so in
-- none whose minimum is above its maximum
abbrev pub RangesAreBetween : Type 0
RangesAreBetween =
    (value : Parameter → Option ℕ) (number : ℕ) → AreBetween value (ranges_by value) number
