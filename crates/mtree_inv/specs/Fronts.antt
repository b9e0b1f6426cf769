-- Words of private contracts: paths that are cut in two after a whole number of blocks, and their
-- fronts, each kept once.
use Rattle.std.specs.Prelude.{◌≡◌, ◌≤◌, ◌<◌, ℕ, suc, ◌%◌, List, [], ◌∷◌, ◌++◌, length}
use Rattle.std.specs.Prelude.{slice_get, slice_index_or, Some}
use Rattle.mtree_inv.specs.Cuts.{Cut, AreDistinct}

-- how many bytes a front grows by
abbrev pub block_len : ℕ
block_len = 256

-- ---- the fronts in the order of their numbers, and the paths that are cut after them

abbrev pub front_at : List (List ℕ) → ℕ → List ℕ
front_at fronts n = slice_index_or fronts n []

abbrev pub path_of_cut : List (List ℕ) → Cut → List ℕ
path_of_cut fronts cut = front_at fronts cut.0 ++ cut.1

pub record IsCut (fronts : List (List ℕ)) (cut : Cut) : Type 0 where
  -- its front is one of these
  pub kept : cut.0 < length fronts
  -- no more than a block stands after the front, and nothing only in the empty path
  pub short : length cut.1 ≤ block_len
  pub filled : length cut.1 ≡ 0 → cut.0 ≡ 0

-- this path, cut so
pub record IsCutOf (fronts : List (List ℕ)) (cut : Cut) (path : List ℕ) : Type 0 where
  pub is_cut : IsCut fronts cut
  pub is_path : path_of_cut fronts cut ≡ path

pub record AreFronts (fronts : List (List ℕ)) : Type 0 where
  -- the first is empty, and there is one
  pub some : 0 < length fronts
  pub first : front_at fronts 0 ≡ []
  -- each is a whole number of blocks
  pub whole : (n : ℕ) → n < length fronts → length (front_at fronts n) % block_len ≡ 0
  -- no two are the same
  pub distinct : (m n : ℕ) → m < length fronts → n < length fronts
      → front_at fronts m ≡ front_at fronts n → m ≡ n

-- the fronts that came stand after the others, so that numbers stay what they are
abbrev pub GrowTo : List (List ℕ) → List (List ℕ) → Type 0
GrowTo fronts new_fronts = (added : List (List ℕ)) × (new_fronts ≡ fronts ++ added)

-- ---- fronts as cuts: each but the empty one is a front before it, and a block

abbrev pub fronts_behind : List (List ℕ) → List Cut → List (List ℕ)
fronts_behind fronts [] = fronts
fronts_behind fronts (cut ∷ cuts) = fronts_behind (fronts ++ path_of_cut fronts cut ∷ []) cuts

unfoldable pub fronts_in : List Cut → List (List ℕ)
fronts_in cuts = fronts_behind ([] ∷ []) cuts

-- the front with this number is one before it and a block after that
pub record IsFrontAt (fronts : List (List ℕ)) (cut : Cut) (n : ℕ) : Type 0 where
  pub kept : n < length fronts
  pub before : cut.0 < n
  pub block : length cut.1 ≡ block_len
  pub is_front : front_at fronts n ≡ path_of_cut fronts cut

pub record AreFrontCuts (cuts : List Cut) : Type 0 where
  pub distinct : AreDistinct cuts
  pub counted : length (fronts_in cuts) ≡ suc (length cuts)
  -- the empty front is the first
  pub first : front_at (fronts_in cuts) 0 ≡ []
  pub told : (i : ℕ) (cut : Cut) → slice_get cuts i ≡ Some cut
      → IsFrontAt (fronts_in cuts) cut (suc i)
