-- What the solver's fields stand for.
-- Words of the code and not of the subject: only private contracts, views and invariants cite them.
use Rattle.std.specs.Prelude.{◌≡◌, ℕ, ◌≤◌, length, slice_index, slice_index_or, Some, None}
use Rattle.std.specs.Prelude.{unwrap_or}
use Rattle.std.specs.BTreeMap as btree
use Rattle.std.specs.Ordering.{nat_cmp}
use Rattle.candidates.specs.Rows.{AreRows}
use Rattle.assignment.specs.Solutions.{row_weight}
use Rattle.assignment.specs.declared.duals.Duals.{Duals}
use Rattle.assignment.specs.declared.pairs.Pairs.{Pairs}
use Rattle.assignment.specs.declared.tree.Tree.{Tree}
use Rattle.assignment.specs.declared.solver.Solver.{Solver}
use Rattle.assignment.specs.Standing.{Standing, IsFair, IsTree, IsLoose}

abbrev pub standing : Duals → Pairs → Standing
standing d p =
    record {
      y = λ n. slice_index d.y.items n;
      z = λ v. unwrap_or (btree.get nat_cmp d.z v) 0;
      given = λ n. slice_index_or p.given.items n None;
      owner = λ v. btree.get nat_cmp p.owner v;
    }

-- each name has its y, and its number or none
pub record FitsNames (d : Duals) (p : Pairs) (size : ℕ) : Type 0 where
  pub y_long : length d.y.items ≡ size
  pub given_long : length p.given.items ≡ size

-- the tree hangs from the root, and each name has a position for it
pub record IsGrown (w : ℕ → ℕ → ℕ) (s : Standing) (t : Tree) (size : ℕ) (root : ℕ) : Type 0 where
  pub position_long : length t.position.items ≡ size
  pub shape : IsTree w s size root t.position.items t.names.items t.parents.items

-- no value of z is 0
abbrev pub HasNoZero : Duals → Type 0
HasNoZero d = (v x : ℕ) → btree.get nat_cmp d.z v ≡ Some x → 1 ≤ x

-- the names below next were served
pub record IsServing (s : Solver) (next : ℕ) : Type 0 where
  pub lawful : AreRows s.rows.now
  pub fits : FitsNames s.duals s.pairs (length s.rows.now.rows)
  pub fair : IsFair (row_weight s.rows.now) (standing s.duals s.pairs) next
  pub positive : HasNoZero s.duals

-- a search from the tree's first name, which waits
abbrev pub root_of : Tree → ℕ
root_of t = slice_index t.names.items 0

pub record IsSearching (s : Solver) (t : Tree) : Type 0 where
  pub serving : IsServing s (root_of t)
  pub grown : IsGrown (row_weight s.rows.now) (standing s.duals s.pairs) t (length s.rows.now.rows)
      (root_of t)

-- in the midst of a flip: the number v is to go to the name at the position i of the tree
pub record IsFlipping (s : Solver) (t : Tree) (i : ℕ) (v : ℕ) : Type 0 where
  pub lawful : AreRows s.rows.now
  pub fits : FitsNames s.duals s.pairs (length s.rows.now.rows)
  pub loose : IsLoose (row_weight s.rows.now) (standing s.duals s.pairs) (length s.rows.now.rows)
      (root_of t) t.position.items t.names.items t.parents.items i v
  pub positive : HasNoZero s.duals
