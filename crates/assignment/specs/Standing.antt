-- What a search keeps: potentials that cover, and what was given so far.
-- Words of the code and not of the subject: only private contracts, views and invariants cite them.
use Rattle.std.specs.Prelude.{◌≡◌, ◌≢◌, ℕ, ◌+◌, ◌<◌, ◌≤◌, ◌^◌, ◌&&◌, Bool, false, nat_lt, nat_eq}
use Rattle.std.specs.Prelude.{List, length, slice_index, Option, Some, None}

-- the potentials, each name's number and each number's owner
pub record Standing : Type 0 where
  pub y : ℕ → ℕ
  pub z : ℕ → ℕ
  pub given : ℕ → Option ℕ
  pub owner : ℕ → Option ℕ

-- a candidate of the name whose weight is what the potentials cover it with
pub record IsTightPair (w : ℕ → ℕ → ℕ) (s : Standing) (n : ℕ) (v : ℕ) : Type 0 where
  pub weighs : 0 < w n v
  pub equal : w n v ≡ s.y n + s.z v

-- The names below next were served: each has a number by a tight pair, or left with y zero. The
-- others have one too, or wait.
pub record IsFair (w : ℕ → ℕ → ℕ) (s : Standing) (next : ℕ) : Type 0 where
  pub cover : (n v : ℕ) → w n v ≤ s.y n + s.z v
  pub small : (n : ℕ) → s.y n < 2 ^ 63
  pub tight : (n v : ℕ) → s.given n ≡ Some v → IsTightPair w s n v
  pub owned : (n v : ℕ) → s.given n ≡ Some v → s.owner v ≡ Some n
  pub has : (n v : ℕ) → s.owner v ≡ Some n → s.given n ≡ Some v
  pub zero_free : (v : ℕ) → s.owner v ≡ None → s.z v ≡ 0
  pub zero_left : (n : ℕ) → n < next → s.given n ≡ None → s.y n ≡ 0

-- n is among the first t names of a tree, where position tells the position of each of its names
abbrev pub among : List ℕ → List ℕ → ℕ → ℕ → Bool
among position names t n =
    nat_lt (slice_index position n) t && nat_eq (slice_index names (slice_index position n)) n

-- the number's owner is among them
abbrev pub holds : List ℕ → List ℕ → ℕ → Option ℕ → Bool
holds position names t None = false
holds position names t (Some n) = among position names t n

-- the name at a position of the tree, which has a number that its parent has a tight pair with
pub record IsHung (w : ℕ → ℕ → ℕ) (s : Standing) (names : List ℕ) (parents : List ℕ) (i : ℕ) :
    Type 0 where
  pub earlier : slice_index parents i < i
  pub number : ℕ
  pub held : s.given (slice_index names i) ≡ Some number
  pub tight : IsTightPair w s (slice_index names (slice_index parents i)) number

-- a tree of names below size, which hangs from a root with no number
pub record IsTree (w : ℕ → ℕ → ℕ) (s : Standing) (size : ℕ) (root : ℕ) (position : List ℕ)
    (names : List ℕ) (parents : List ℕ) : Type 0 where
  pub some : 0 < length names
  pub paired : length parents ≡ length names
  pub first : slice_index names 0 ≡ root
  pub bare : s.given root ≡ None
  pub placed : (i : ℕ) → i < length names → slice_index position (slice_index names i) ≡ i
  pub below : (i : ℕ) → i < length names → slice_index names i < size
  pub hung : (i : ℕ) → 0 < i → i < length names → IsHung w s names parents i

-- no slack from the tree is less than d: to the exit, and to a number that it does not hold
pub record IsSlack (w : ℕ → ℕ → ℕ) (s : Standing) (position : List ℕ) (names : List ℕ) (d : ℕ) :
    Type 0 where
  pub exit : (i : ℕ) → i < length names → d ≤ s.y (slice_index names i)
  pub reach : (i v : ℕ) → i < length names → holds position names (length names) (s.owner v) ≡ false
      → w (slice_index names i) v + d ≤ s.y (slice_index names i) + s.z v

-- the slack d is met at the tree's position i: at the exit, or towards a number that the tree does
-- not hold
abbrev pub IsMet : (ℕ → ℕ → ℕ) → Standing → List ℕ → List ℕ → ℕ → ℕ → Option ℕ → Type 0
IsMet w s position names d i None = s.y (slice_index names i) ≡ d
IsMet w s position names d i (Some v) =
    (0 < w (slice_index names i) v) × (holds position names (length names) (s.owner v) ≡ false)
    × (w (slice_index names i) v + d ≡ s.y (slice_index names i) + s.z v)

-- in the midst of a flip: the number v, which nobody has, is to go to the name at the position i of
-- the tree
pub record IsLoose (w : ℕ → ℕ → ℕ) (s : Standing) (size : ℕ) (next : ℕ) (position : List ℕ)
    (names : List ℕ) (parents : List ℕ) (i : ℕ) (v : ℕ) : Type 0 where
  pub cover : (n u : ℕ) → w n u ≤ s.y n + s.z u
  pub small : (n : ℕ) → s.y n < 2 ^ 63
  pub tight : (n u : ℕ) → s.given n ≡ Some u → IsTightPair w s n u
  pub apart : (n u : ℕ) → s.given n ≡ Some u → u ≢ v
  pub owned : (n u : ℕ) → s.given n ≡ Some u → s.owner u ≡ Some n
  pub has : (n u : ℕ) → u ≢ v → s.owner u ≡ Some n → s.given n ≡ Some u
  pub zero_free : (u : ℕ) → u ≢ v → s.owner u ≡ None → s.z u ≡ 0
  pub zero_left : (n : ℕ) → n < next → s.given n ≡ None → (s.y n ≡ 0)
  pub bare : s.given next ≡ None
  pub link : IsTightPair w s (slice_index names i) v
  pub position_in : i < length names
  pub paired : length parents ≡ length names
  pub first : slice_index names 0 ≡ next
  pub placed : (j : ℕ) → j < length names → slice_index position (slice_index names j) ≡ j
  pub below : (j : ℕ) → j < length names → slice_index names j < size
  pub hung : (j : ℕ) → 0 < j → j ≤ i → IsHung w s names parents j
