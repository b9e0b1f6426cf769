-- Words of private contracts: cuts whose bytes stand in one buffer, one after another.
use Rattle.std.specs.Prelude.{◌≡◌, ℕ, zero, suc, ◌-◌, ◌≤◌, List, [], ◌∷◌, take, drop, length}
use Rattle.mtree_inv.specs.declared.held_cuts.Row.{Row}
use Rattle.mtree_inv.specs.Cuts.{Cut}
use Rattle.mtree_inv.specs.Places.{hash_of}

-- the cut of a row whose bytes begin here
abbrev pub cut_in : List ℕ → ℕ → Row → Cut
cut_in bytes start row = (row.front, take (row.end - start) (drop start bytes))

abbrev pub cuts_in : List ℕ → ℕ → List Row → List Cut
cuts_in bytes start [] = []
cuts_in bytes start (row ∷ rows) = cut_in bytes start row ∷ cuts_in bytes row.end rows

-- where the bytes of the row at an index begin, if those of the first begin here
abbrev pub start_at : ℕ → List Row → ℕ → ℕ
start_at start rows zero = start
start_at start [] (suc i) = start
start_at start (row ∷ rows) (suc i) = start_at row.end rows i

-- the bytes of a row stand in the buffer, and its hash is that of its cut
pub record IsHeld (bytes : List ℕ) (start : ℕ) (row : Row) : Type 0 where
  pub begins : start ≤ row.end
  pub within : row.end ≤ length bytes
  pub hash : row.hash ≡ hash_of (cut_in bytes start row)

-- so it is with each, and no byte stands behind the last
abbrev pub AreHeld : List ℕ → ℕ → List Row → Type 0
AreHeld bytes start [] = start ≡ length bytes
AreHeld bytes start (row ∷ rows) = IsHeld bytes start row × AreHeld bytes row.end rows
