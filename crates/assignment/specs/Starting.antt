-- What the start of the searches keeps while it takes over a guess.
-- Words of the code and not of the subject: only private contracts, views and invariants cite them.
use Rattle.std.specs.Prelude.{◌≡◌, ℕ, ◌+◌, ◌<◌, ◌≤◌, ◌^◌, length, Some, None}
use Rattle.std.specs.BTreeMap as btree
use Rattle.std.specs.Ordering.{nat_cmp}
use Rattle.candidates.specs.Rows.{AreRows}
use Rattle.assignment.specs.Solutions.{row_weight}
use Rattle.assignment.specs.declared.pairs.Pairs.{Pairs}
use Rattle.assignment.specs.declared.solver.Solver.{Solver}
use Rattle.assignment.specs.Standing.{IsTightPair}
use Rattle.assignment.specs.Solving.{standing, FitsNames}

-- The potentials cover, and what names below next have is theirs by tight pairs; the others have
-- nothing. A number that nobody has may have a potential.
pub record IsStarted (s : Solver) (next : ℕ) : Type 0 where
  pub lawful : AreRows s.rows.now
  pub fits : FitsNames s.duals s.pairs (length s.rows.now.rows)
  pub cover : (n v : ℕ) → row_weight s.rows.now n v
      ≤ (standing s.duals s.pairs).y n + (standing s.duals s.pairs).z v
  pub small : (n : ℕ) → (standing s.duals s.pairs).y n < 2 ^ 63
  pub tight : (n v : ℕ) → (standing s.duals s.pairs).given n ≡ Some v
      → IsTightPair (row_weight s.rows.now) (standing s.duals s.pairs) n v
  pub owned : (n v : ℕ) → (standing s.duals s.pairs).given n ≡ Some v
      → (standing s.duals s.pairs).owner v ≡ Some n
  pub has : (n v : ℕ) → (standing s.duals s.pairs).owner v ≡ Some n
      → (standing s.duals s.pairs).given n ≡ Some v
  pub later : (n : ℕ) → next ≤ n → (standing s.duals s.pairs).given n ≡ None

-- the number's potential is not 0, and somebody has the number
abbrev pub IsOwned : Pairs → ℕ × ℕ → Type 0
IsOwned p e = (1 ≤ e.1) × (btree.get nat_cmp p.owner e.0 ≡ None → ⊥)
