-- Words of private contracts and of an invariant: the places of paths in the order of their bytes.
-- Source: this project's own rule.
use Rattle.std.specs.Prelude.{◌≡◌, ◌≢◌, ◌≤◌, ◌<◌, ℕ, List, [], map, take, length, slice_index_or}
use Rattle.std.specs.Prelude.{AllPairs, IsPermutation, IsSorted}
use Rattle.std.specs.List.{range_with_len}
use Rattle.std.specs.Ordering.{nat_cmp, on, then_cmp}
use Rattle.std.specs.declared.cmp.Ordering.{Ordering}
use Rattle.std.specs.Cmp.Lexicographic.{slice_cmp}
use Rattle.reown_plan.specs.PlanData.{PlanRecord}

-- the paths of records, in their order
abbrev pub paths_in : List PlanRecord → List (List ℕ)
paths_in records = map (λ r. r.path) records

-- no two paths are the same
abbrev pub AreDistinctPaths : List (List ℕ) → Type 0
AreDistinctPaths paths = AllPairs (λ a b. a ≢ b) paths

-- the path at a place, the empty one where there is none
abbrev pub path_at : List (List ℕ) → ℕ → List ℕ
path_at paths place = slice_index_or paths place []

-- places by the bytes of their paths, and those of one path as they come
abbrev pub place_cmp : List (List ℕ) → ℕ → ℕ → Ordering
place_cmp paths = then_cmp (on (path_at paths) (slice_cmp nat_cmp)) nat_cmp

-- the places of all paths, in that order
pub record ArePlaces (paths : List (List ℕ)) (places : List ℕ) : Type 0 where
  pub all : IsPermutation (range_with_len 0 (length paths)) places
  pub ascending : IsSorted (place_cmp paths) places

-- so many paths from the first on differ, and the next one, if there is one, is one of these
pub record AreFirstDistinct (paths : List (List ℕ)) (count : ℕ) : Type 0 where
  pub within : count ≤ length paths
  pub distinct : AreDistinctPaths (take count paths)
  pub repeated : count < length paths
      → (i : ℕ) × (i < count) × (path_at paths i ≡ path_at paths count)
