-- A search that lowers nothing until it ends: its levels, and the pairs that wait in its queue.
-- Words of the code and not of the subject: only private contracts, views and invariants cite them.
use Rattle.std.specs.Prelude.{◌≡◌, ◌≢◌, ℕ, ◌+◌, ◌-◌, ◌<◌, ◌≤◌, ◌^◌, ◌⊎◌, false, true, cond, List}
use Rattle.std.specs.Prelude.{◌∷◌, length, slice_index, slice_index_or, Option, Some, None}
use Rattle.std.specs.Prelude.{unwrap_or}
use Rattle.std.specs.List.{All, Contains}
use Rattle.std.specs.List.Sorted.{IsPermutation}
use Rattle.std.specs.BTreeMap as btree
use Rattle.std.specs.Ordering.{nat_cmp}
use Rattle.candidates.specs.Rows.{AreRows}
use Rattle.assignment.specs.Solutions.{row_weight}
use Rattle.assignment.specs.declared.duals.Duals.{Duals}
use Rattle.assignment.specs.declared.pairs.Pairs.{Pairs}
use Rattle.assignment.specs.declared.tree.Tree.{Tree}
use Rattle.assignment.specs.declared.solver.Solver.{Solver}
use Rattle.assignment.specs.declared.search.Nearest.{Nearest}
use Rattle.assignment.specs.Order.{Edge}
use Rattle.assignment.specs.Standing.{Standing, IsFair, IsTree, among, holds}
use Rattle.assignment.specs.Solving.{FitsNames, HasNoZero, root_of}

abbrev pub y_in : Duals → ℕ → ℕ
y_in d n = slice_index d.y.items n

abbrev pub z_in : Duals → ℕ → ℕ
z_in d v = unwrap_or (btree.get nat_cmp d.z v) 0

-- the level at which a name of the tree was reached
abbrev pub level_of : Tree → ℕ → ℕ
level_of t i = slice_index t.levels.items i

-- how far a name among the first of the tree is to be lowered
abbrev pub depth_in : List ℕ → List ℕ → List ℕ → ℕ → ℕ → ℕ → ℕ
depth_in position names levels now upto n =
    cond (among position names upto n) (now - slice_index levels (slice_index position n)) 0

-- how far the number of such a name is to be raised
abbrev pub height_in : List ℕ → List ℕ → List ℕ → ℕ → ℕ → Option ℕ → ℕ
height_in position names levels now upto None = 0
height_in position names levels now upto (Some n) = depth_in position names levels now upto n

abbrev pub depth_of : Tree → ℕ → ℕ → ℕ
depth_of t now n =
    depth_in t.position.items t.names.items t.levels.items now (length t.names.items) n

abbrev pub height_of : Tree → ℕ → Option ℕ → ℕ
height_of t now o =
    height_in t.position.items t.names.items t.levels.items now (length t.names.items) o

-- the standing as it is once everything is lowered to the level
abbrev pub lowered_to : Duals → Pairs → Tree → ℕ → Standing
lowered_to d p t now =
    record {
      y = λ n. y_in d n - depth_of t now n;
      z = λ v. z_in d v + height_of t now (btree.get nat_cmp p.owner v);
      given = λ n. slice_index_or p.given.items n None;
      owner = λ v. btree.get nat_cmp p.owner v;
    }

-- the first names of the tree are lowered to the level, and their numbers raised
pub record IsSettled (start : Duals) (d : Duals) (p : Pairs) (t : Tree) (now : ℕ) (upto : ℕ) :
    Type 0 where
  pub y : (n : ℕ) → y_in d n ≡ y_in start n
      - depth_in t.position.items t.names.items t.levels.items now upto n
  pub z : (v : ℕ) → z_in d v ≡ z_in start v
      + height_in t.position.items t.names.items t.levels.items now upto
      (btree.get nat_cmp p.owner v)

-- what lets the tree be lowered to the level
pub record CanSettle (d : Duals) (p : Pairs) (t : Tree) (now : ℕ) : Type 0 where
  pub levels_long : length t.levels.items ≡ length t.names.items
  pub placed : (i : ℕ) → i < length t.names.items
      → slice_index t.position.items (slice_index t.names.items i) ≡ i
  pub has_y : (i : ℕ) → i < length t.names.items → slice_index t.names.items i < length d.y.items
  pub has_given : (i : ℕ) → i < length t.names.items
      → slice_index t.names.items i < length p.given.items
  pub passed : (i : ℕ) → i < length t.names.items → level_of t i ≤ now
  pub room : (i : ℕ) → i < length t.names.items
      → now ≤ level_of t i + y_in d (slice_index t.names.items i)
  pub fits : (i v : ℕ) → i < length t.names.items → z_in d v + (now - level_of t i) < 2 ^ 64
  pub owned : (n v : ℕ) → slice_index_or p.given.items n None ≡ Some v
      → btree.get nat_cmp p.owner v ≡ Some n
  pub has : (n v : ℕ) → btree.get nat_cmp p.owner v ≡ Some n
      → slice_index_or p.given.items n None ≡ Some v

-- a search at a level
pub record IsLazy (s : Solver) (t : Tree) (now : ℕ) : Type 0 where
  pub lawful : AreRows s.rows.now
  pub fits : FitsNames s.duals s.pairs (length s.rows.now.rows)
  pub positive : HasNoZero s.duals
  pub position_long : length t.position.items ≡ length s.rows.now.rows
  pub levels_long : length t.levels.items ≡ length t.names.items
  pub fair : IsFair (row_weight s.rows.now) (lowered_to s.duals s.pairs t now) (root_of t)
  pub shape : IsTree (row_weight s.rows.now) (lowered_to s.duals s.pairs t now)
      (length s.rows.now.rows) (root_of t) t.position.items t.names.items t.parents.items
  pub passed : (i : ℕ) → i < length t.names.items → level_of t i ≤ now
  pub starts : level_of t 0 ≡ 0
  pub high : (n : ℕ) → y_in s.duals n < 2 ^ 63
  pub cover : (n v : ℕ) → row_weight s.rows.now n v ≤ y_in s.duals n + z_in s.duals v

-- at the level the name at the position leaves, or takes a number that nobody has
abbrev pub IsWayOut : Solver → Tree → ℕ → ℕ → Option ℕ → Type 0
IsWayOut s t level i None = level ≡ level_of t i + y_in s.duals (slice_index t.names.items i)
IsWayOut s t level i (Some v) =
    (0 < row_weight s.rows.now (slice_index t.names.items i) v)
    × (btree.get nat_cmp s.pairs.owner v ≡ None)
    × (level + row_weight s.rows.now (slice_index t.names.items i) v
    ≡ level_of t i + y_in s.duals (slice_index t.names.items i) + z_in s.duals v)

-- a way out of the search at a level at which no name of the tree has left yet
pub record IsExit (s : Solver) (t : Tree) (exit : Nearest) : Type 0 where
  pub within : exit.at < length t.names.items
  pub least : (i : ℕ) → i < length t.names.items
      → exit.level ≤ level_of t i + y_in s.duals (slice_index t.names.items i)
  pub way : IsWayOut s t exit.level exit.at exit.number

-- the level of an edge is that at which its pair is tight, and not below the level now
pub record IsEdge (s : Solver) (t : Tree) (now : ℕ) (e : Edge) : Type 0 where
  pub within : e.1.0 < length t.names.items
  pub weighs : 0 < row_weight s.rows.now (slice_index t.names.items e.1.0) e.2
  pub level : e.0.0 + row_weight s.rows.now (slice_index t.names.items e.1.0) e.2
      ≡ level_of t e.1.0 + y_in s.duals (slice_index t.names.items e.1.0) + z_in s.duals e.2
  pub later : now ≤ e.0.0

-- the pair is in the queue, or not tight before the level of the exit
abbrev pub IsQueued : Solver → Tree → ℕ → List Edge → ℕ → ℕ → Type 0
IsQueued s t leaves edges i v =
    (leaves + row_weight s.rows.now (slice_index t.names.items i) v
    ≤ level_of t i + y_in s.duals (slice_index t.names.items i) + z_in s.duals v)
    ⊎ ((e : Edge) × Contains edges e × (e.1.0 ≡ i) × (e.2 ≡ v))

-- what following an edge leaves: the exit where it is no farther, or where the tree holds the
-- number; a nearer exit at a number that nobody has; or the exit, with one edge more in the queue
abbrev pub IsFollowed : Solver → Tree → List Edge → List Edge → Edge → Nearest → Nearest → Type 0
IsFollowed s t old new e exit after =
    ((exit.level ≤ e.0.0) × (after ≡ exit) × (new ≡ old))
    ⊎ (((e.0.0 < exit.level) × (btree.get nat_cmp s.pairs.owner e.2 ≡ None)
    × (after ≡ record { level = e.0.0; at = e.1.0; number = Some e.2 }) × (new ≡ old))
    ⊎ (((holds t.position.items t.names.items (length t.names.items)
    (btree.get nat_cmp s.pairs.owner e.2) ≡ true) × (after ≡ exit) × (new ≡ old))
    ⊎ ((e.0.0 < exit.level) × (after ≡ exit) × IsPermutation (e ∷ old) new)))

-- a queue with each pair of the tree's names below the position i and the numbers that the tree
-- does not hold
pub record HasEdges (s : Solver) (t : Tree) (now : ℕ) (leaves : ℕ) (edges : List Edge) (upto : ℕ) :
    Type 0 where
  pub edge : All (IsEdge s t now) edges
  pub all : (i v : ℕ) → i < upto
      → holds t.position.items t.names.items (length t.names.items)
      (btree.get nat_cmp s.pairs.owner v) ≡ false
      → 0 < row_weight s.rows.now (slice_index t.names.items i) v → IsQueued s t leaves edges i v

-- the same once the edges of the number v were taken out
pub record HasOtherEdges (s : Solver) (t : Tree) (now : ℕ) (leaves : ℕ) (edges : List Edge) (v : ℕ)
    : Type 0 where
  pub edge : All (IsEdge s t now) edges
  pub all : (i u : ℕ) → i < length t.names.items → u ≢ v
      → holds t.position.items t.names.items (length t.names.items)
      (btree.get nat_cmp s.pairs.owner u) ≡ false
      → 0 < row_weight s.rows.now (slice_index t.names.items i) u → IsQueued s t leaves edges i u
