-- A search at a level, and at a later one.
use Rattle.std.proofs.Common.{◌≡◌, ℕ, ◌+◌, ◌-◌, ◌<◌, ◌≤◌, ◌^◌, true, false, List, [], length, get_or, Option, Some, None, refl, ap, ◌∙◌, subst, ⊎_elim, arith}
use Rattle.std.specs.List.{All, Contains}
use Rattle.std.specs.BTreeMap as btree
use Rattle.std.specs.Ordering.{nat_cmp}
use Rattle.std.proofs.lemmas.Bool.{cases_eq, both_ways, cond-true, cond-false}
use Rattle.std.proofs.lemmas.List.Elements.{All-contains}
use Rattle.assignment.specs.Solutions.{row_weight}
use Rattle.assignment.specs.declared.duals.Duals.{Duals}
use Rattle.assignment.specs.declared.pairs.Pairs.{Pairs}
use Rattle.assignment.specs.declared.tree.Tree.{Tree}
use Rattle.assignment.specs.declared.solver.Solver.{Solver}
use Rattle.assignment.specs.declared.search.Nearest.{Nearest}
use Rattle.assignment.specs.Order.{Edge}
use Rattle.assignment.specs.Standing.{Standing, IsFair, IsTree, IsSlack, among, holds}
use Rattle.assignment.specs.Solving.{HasNoZero, IsSearching, root_of}
use Rattle.assignment.specs.Lazy.{y_in, z_in, level_of, depth_of, height_of, lowered_to, IsSettled, CanSettle, IsLazy, IsExit, IsEdge, HasEdges}
use Rattle.assignment.proofs.Nearest.{z_small}
use Rattle.assignment.proofs.Weigh.{row_weight_small}
use Rattle.assignment.proofs.Fair.{IsLowered, lowered_fair, lowered_tree, among_at, among_position, with_duals}

-- ---- two standings with the same values

same_lowered : (s : Standing) (y z : ℕ → ℕ) (position names : List ℕ) → ((n : ℕ) → y n ≡ s.y n) → ((v : ℕ) → z v ≡ s.z v) → IsLowered s y z position names (length names) 0
same_lowered s y z position names h k = record { y_in = λ n _. omega (arith, h n); y_out = λ n _. h n; z_in = λ v _. omega (arith, k v); z_out = λ v _. k v }

no_slack : (w : ℕ → ℕ → ℕ) (s : Standing) (next : ℕ) (position names : List ℕ) → IsFair w s next → IsSlack w s position names 0
no_slack w s next position names fair = record { exit = λ i l. omega arith; reach = λ i v l h. omega (arith, fair.cover (get_or names i 0) v) }

pub same_fair : (w : ℕ → ℕ → ℕ) (s : Standing) (next : ℕ) (y z : ℕ → ℕ) → IsFair w s next → ((n : ℕ) → y n ≡ s.y n) → ((v : ℕ) → z v ≡ s.z v) → IsFair w (with_duals s y z) next
same_fair w s next y z fair h k = lowered_fair w s [] [] next 0 y z fair (no_slack w s next [] [] fair) (same_lowered s y z [] [] h k)

pub same_shape : (w : ℕ → ℕ → ℕ) (s : Standing) (size root next : ℕ) (position names parents : List ℕ) (y z : ℕ → ℕ) → IsFair w s next → IsTree w s size root position names parents → ((n : ℕ) → y n ≡ s.y n) → ((v : ℕ) → z v ≡ s.z v) → IsTree w (with_duals s y z) size root position names parents
same_shape w s size root next position names parents y z fair tree h k = lowered_tree w s size root next 0 position names parents y z fair tree (no_slack w s next position names fair) (same_lowered s y z position names h k)

-- ---- a later level

depth_here : (t : Tree) (now n : ℕ) → among t.position.items t.names.items (length t.names.items) n ≡ true → depth_of t now n ≡ now - level_of t (get_or t.position.items n 0)
depth_here t now n e = cond-true _ _ _ e

pub depth_out : (t : Tree) (now n : ℕ) → among t.position.items t.names.items (length t.names.items) n ≡ false → depth_of t now n ≡ 0
depth_out t now n e = cond-false _ _ _ e

depth_more : (t : Tree) (now later n : ℕ) → ((i : ℕ) → i < length t.names.items → level_of t i ≤ now) → now ≤ later → among t.position.items t.names.items (length t.names.items) n ≡ true → depth_of t later n ≡ depth_of t now n + (later - now)
depth_more t now later n passed l e =
    let p = passed (get_or t.position.items n 0) (among_position t.position.items t.names.items (length t.names.items) n e).0 in
    omega (arith, depth_here t now n e, depth_here t later n e, p)

height_more : (t : Tree) (now later : ℕ) (o : Option ℕ) → ((i : ℕ) → i < length t.names.items → level_of t i ≤ now) → now ≤ later → holds t.position.items t.names.items (length t.names.items) o ≡ true → height_of t later o ≡ height_of t now o + (later - now)
height_more t now later None passed l e = absurd (both_ways false refl e)
height_more t now later (Some n) passed l e = depth_more t now later n passed l e

pub height_out : (t : Tree) (now : ℕ) (o : Option ℕ) → holds t.position.items t.names.items (length t.names.items) o ≡ false → height_of t now o ≡ 0
height_out t now None e = refl
height_out t now (Some n) e = depth_out t now n e

pub later_lowered : (d : Duals) (p : Pairs) (t : Tree) (now later : ℕ) → ((i : ℕ) → i < length t.names.items → level_of t i ≤ now) → now ≤ later → IsLowered (lowered_to d p t now) (lowered_to d p t later).y (lowered_to d p t later).z t.position.items t.names.items (length t.names.items) (later - now)
later_lowered d p t now later passed l =
    record {
      y_in = λ n e. omega (arith, depth_more t now later n passed l e);
      y_out = λ n e. omega (arith, depth_out t now n e, depth_out t later n e);
      z_in = λ v e. omega (arith, height_more t now later (btree.get nat_cmp p.owner v) passed l e);
      z_out = λ v e. omega (arith, height_out t now (btree.get nat_cmp p.owner v) e, height_out t later (btree.get nat_cmp p.owner v) e);
    }

-- the depth of a name of the tree
pub depth_at : (s : Solver) (t : Tree) (now later i : ℕ) → IsLazy s t now → i < length t.names.items → depth_of t later (get_or t.names.items i 0) ≡ later - level_of t i
depth_at s t now later i q l =
    let n = get_or t.names.items i 0 in
    let p = q.shape.placed i l in
    depth_here t later n (among_at t.position.items t.names.items (length t.names.items) i p l) ∙ ap (λ k. later - level_of t k) p

-- the least of the exit and the queue bounds the slack
pub slack_upto : (s : Solver) (t : Tree) (now later : ℕ) (exit : Nearest) (edges : List Edge) → IsLazy s t now → IsExit s t exit → HasEdges s t now exit.level edges (length t.names.items) → now ≤ later → later ≤ exit.level → All (λ (e : Edge). later ≤ e.0.0) edges → IsSlack (row_weight s.rows.now) (lowered_to s.duals s.pairs t now) t.position.items t.names.items (later - now)
slack_upto s t now later exit edges q ex has l up all =
    let room : (i : ℕ) → i < length t.names.items → later - now ≤ (lowered_to s.duals s.pairs t now).y (get_or t.names.items i 0) = λ i h. omega (arith, depth_at s t now now i q h, ex.least i h, q.passed i h) in
    record {
      exit = room;
      reach = λ i v h free.
          let n = get_or t.names.items i 0 in
          let dn = depth_at s t now now i q h in
          let hv = height_out t now (btree.get nat_cmp s.pairs.owner v) free in
          ⊎_elim
          (λ (zero' : row_weight s.rows.now n v ≡ 0). omega (arith, room i h, zero'))
          (λ (ne : row_weight s.rows.now n v ≡ 0 → ⊥).
          ⊎_elim
          (λ (a : exit.level + row_weight s.rows.now n v ≤ level_of t i + y_in s.duals n + z_in s.duals v). omega (arith, a, dn, hv, q.passed i h, ex.least i h))
          (λ (a : (e : Edge) × Contains edges e × (e.1.0 ≡ i) × (e.2 ≡ v)).
          let e = a.0 in
          let ok = All-contains (IsEdge s t now) edges e has.edge a.1 in
          let low = All-contains (λ (e : Edge). later ≤ e.0.0) edges e all a.1 in
          let lev : e.0.0 + row_weight s.rows.now n v ≡ level_of t i + y_in s.duals n + z_in s.duals v =
          subst (λ (j : ℕ). e.0.0 + row_weight s.rows.now (get_or t.names.items j 0) v ≡ level_of t j + y_in s.duals (get_or t.names.items j 0) + z_in s.duals v) a.2
          (subst (λ (u : ℕ). e.0.0 + row_weight s.rows.now (get_or t.names.items e.1.0 0) u ≡ level_of t e.1.0 + y_in s.duals (get_or t.names.items e.1.0 0) + z_in s.duals u) a.3 ok.level) in
          omega (arith, lev, low, dn, hv, q.passed i h, ex.least i h))
          (has.all i v h free (omega (arith, ne))))
          (cases_eq (row_weight s.rows.now n v) 0);
    }

-- the search at a later level
pub later_lazy : (s : Solver) (t : Tree) (now later : ℕ) → IsLazy s t now → now ≤ later → IsSlack (row_weight s.rows.now) (lowered_to s.duals s.pairs t now) t.position.items t.names.items (later - now) → IsLazy s t later
later_lazy s t now later q l slack =
    let low = later_lowered s.duals s.pairs t now later q.passed l in
    let a = lowered_to s.duals s.pairs t now in
    let b = lowered_to s.duals s.pairs t later in
    record {
      lawful = q.lawful;
      fits = q.fits;
      positive = q.positive;
      position_long = q.position_long;
      levels_long = q.levels_long;
      fair = lowered_fair (row_weight s.rows.now) a t.position.items t.names.items (root_of t) (later - now) b.y b.z q.fair slack low;
      shape = lowered_tree (row_weight s.rows.now) a (length s.rows.now.rows) (root_of t) (root_of t) (later - now) t.position.items t.names.items t.parents.items b.y b.z q.fair q.shape slack low;
      passed = λ i h. omega (arith, q.passed i h);
      starts = q.starts;
      high = q.high;
      cover = q.cover;
    }

-- ---- the end of a search

pub can_settle : (s : Solver) (t : Tree) (now : ℕ) (exit : Nearest) → IsLazy s t now → IsExit s t exit → now ≤ exit.level → CanSettle s.duals s.pairs t now
can_settle s t now exit q ex l =
    record {
      levels_long = q.levels_long;
      placed = q.shape.placed;
      has_y = λ i h. omega (arith, q.shape.below i h, q.fits.y_long);
      has_given = λ i h. omega (arith, q.shape.below i h, q.fits.given_long);
      passed = q.passed;
      room = λ i h. omega (arith, ex.least i h);
      fits = λ i v h.
          let a : z_in s.duals v + height_of t now (btree.get nat_cmp s.pairs.owner v) < 2 ^ 63 = z_small (row_weight s.rows.now) (lowered_to s.duals s.pairs t now) (root_of t) v q.fair (row_weight_small s.rows.now q.lawful) in
          omega (arith, a, ex.least i h, q.high (get_or t.names.items i 0));
      owned = q.fair.owned;
      has = q.fair.has;
    }

pub settled_search : (s : Solver) (d : Duals) (t : Tree) (now : ℕ) → IsLazy s t now → IsSettled s.duals d s.pairs t now (length t.names.items) → length d.y.items ≡ length s.duals.y.items → HasNoZero d → IsSearching (record s { duals = d }) t
settled_search s d t now q e long positive =
    let a = lowered_to s.duals s.pairs t now in
    record {
      serving = record {
        lawful = q.lawful;
        fits = record { y_long = long ∙ q.fits.y_long; given_long = q.fits.given_long };
        fair = same_fair (row_weight s.rows.now) a (root_of t) (y_in d) (z_in d) q.fair e.y e.z;
        positive = positive;
      };
      grown = record {
        position_long = q.position_long;
        shape = same_shape (row_weight s.rows.now) a (length s.rows.now.rows) (root_of t) (root_of t) t.position.items t.names.items t.parents.items (y_in d) (z_in d) q.fair q.shape e.y e.z;
      };
    }
