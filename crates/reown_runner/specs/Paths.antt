-- Words of private contracts: paths in one buffer, and their places in the order of their bytes.
-- Source: this project's own rule.
use Rattle.std.specs.Prelude.{◌≤◌, ℕ, List, length, slice_range, IsPermutation}
use Rattle.std.specs.List.{range_with_len}
use Rattle.std.specs.List.Sorted.{IsSortedByKey}
use Rattle.std.specs.Ordering.{nat_cmp}
use Rattle.std.specs.Cmp.Lexicographic.{slice_cmp}
use Rattle.reown_plan.specs.Places.{path_at}
use Rattle.reown_runner.specs.declared.paths.Span.{Span}

-- a path may stand there in a buffer of so many bytes
pub record IsSpanWithin (len : ℕ) (span : Span) : Type 0 where
  pub rising : span.start ≤ span.end
  pub within : span.end ≤ len

-- the path that stands there
abbrev pub path_in : List ℕ → Span → List ℕ
path_in bytes span = slice_range bytes span.start span.end

-- the places of all paths, in the byte order of the paths
pub record ArePlaces (paths : List (List ℕ)) (places : List ℕ) : Type 0 where
  pub all : IsPermutation (range_with_len 0 (length paths)) places
  pub ascending : IsSortedByKey (path_at paths) (slice_cmp nat_cmp) places
