-- The turns of a search.
use Rattle.std.proofs.Common.{◌≡◌, ◌≢◌, ℕ, ◌+◌, ◌-◌, ◌<◌, ◌≤◌, ◌++◌, ◌&&◌, true, false, eqb, ltb, List, [], ◌∷◌, length, get_or, set, Option, Some, None, refl, sym, ap, ◌∙◌, subst, ◌⊎◌, inl, inr, ⊎_elim, arith, get_or-set_same, get_or-set_other}
use Rattle.std.specs.List.{Contains}
use Rattle.std.specs.BTreeMap as btree
use Rattle.std.specs.Ordering.{nat_cmp}
use Rattle.std.proofs.lemmas.Bool.{cases_eq, cases_lt, cases_Bool, both_ways, cond-true, cond-false, lt-ltb}
use Rattle.std.proofs.lemmas.Option.{same_Some}
use Rattle.std.proofs.lemmas.List.{length_push, length-set, get_or_append_left, get_or_push}
use Rattle.assignment.specs.Solutions.{row_weight}
use Rattle.assignment.specs.declared.duals.Duals.{Duals}
use Rattle.assignment.specs.declared.tree.Tree.{Tree}
use Rattle.assignment.specs.declared.solver.Solver.{Solver}
use Rattle.assignment.specs.declared.search.Nearest.{Nearest}
use Rattle.assignment.specs.Order.{Edge}
use Rattle.assignment.specs.Standing.{IsTightPair, IsFair, IsTree, IsSlack, IsMet, among, holds}
use Rattle.assignment.specs.Solving.{standing, root_of}
use Rattle.assignment.specs.Lazy.{y_in, z_in, level_of, depth_of, height_of, depth_in, lowered_to, IsSettled, IsLazy, IsWayOut, IsExit, HasEdges, HasOtherEdges}
use Rattle.assignment.proofs.Fair.{among_at, among_position, holds_given}
use Rattle.assignment.proofs.Lazy.{same_fair, same_shape, later_lowered, later_lazy}
use Rattle.assignment.proofs.Grow.{push_tree, same_tree, tree_short, tight_from, zero_from}
use Rattle.assignment.proofs.Nearest.{given_within}

-- ---- a name more

-- the tree t' is t with the name m, reached at the level now from the position i
pub record Grows (t t' : Tree) (m i now : ℕ) : Type 0 where
  pub position : t'.position.items ≡ set t.position.items m (length t.names.items)
  pub names : t'.names.items ≡ t.names.items ++ m ∷ []
  pub parents : t'.parents.items ≡ t.parents.items ++ i ∷ []
  pub levels : t'.levels.items ≡ t.levels.items ++ now ∷ []

among_push : (position names : List ℕ) (m n : ℕ) → n ≢ m → among (set position m (length names)) (names ++ m ∷ []) (length names + 1) n ≡ among position names (length names) n
among_push position names m n ne =
    let k = get_or position n 0 in
    let ek : get_or (set position m (length names)) n 0 ≡ k = get_or-set_other position m n (length names) 0 ne in
    ⊎_elim
    (λ (l : k < length names).
    let a : ltb k (length names + 1) ≡ true = lt-ltb _ _ (omega (arith, l)) in
    let b : ltb k (length names) ≡ true = lt-ltb _ _ l in
    let c : get_or (names ++ m ∷ []) k 0 ≡ get_or names k 0 = get_or_append_left names (m ∷ []) 0 k l in
    ap (λ j. ltb j (length names + 1) && eqb (get_or (names ++ m ∷ []) j 0) n) ek ∙ ap (λ x. x && eqb (get_or (names ++ m ∷ []) k 0) n) (a ∙ sym b) ∙ ap (λ j. ltb k (length names) && eqb j n) c)
    (λ (g : length names ≤ k).
    let outside : (position' names' : List ℕ) (t : ℕ) → (among position' names' t n ≡ true → ⊥) → among position' names' t n ≡ false = λ position' names' t h. ⊎_elim (λ (e : among position' names' t n ≡ true). absurd (h e)) (λ (e : among position' names' t n ≡ false). e) (cases_Bool (among position' names' t n)) in
    let a : among (set position m (length names)) (names ++ m ∷ []) (length names + 1) n ≡ false = outside (set position m (length names)) (names ++ m ∷ []) (length names + 1) (λ e.
    let p = among_position (set position m (length names)) (names ++ m ∷ []) (length names + 1) n e in
    let q : get_or (set position m (length names)) n 0 ≡ length names = omega (arith, p.0, ek, g) in
    let last : get_or (names ++ m ∷ []) (length names) 0 ≡ m = get_or_push names m 0 (length names) refl in
    ne (sym (sym last ∙ ap (λ j. get_or (names ++ m ∷ []) j 0) (sym q) ∙ p.1))) in
    let b : among position names (length names) n ≡ false = outside position names (length names) (λ e. absurd (omega (arith, (among_position position names (length names) n e).0, g))) in
    a ∙ sym b)
    (cases_lt k (length names))

push_depth : (position names levels : List ℕ) (now m n : ℕ) → length levels ≡ length names → m < length position → among position names (length names) m ≡ false → depth_in (set position m (length names)) (names ++ m ∷ []) (levels ++ now ∷ []) now (length names + 1) n ≡ depth_in position names levels now (length names) n
push_depth position names levels now m n long ml out =
    let position' = set position m (length names) in
    let names' = names ++ m ∷ [] in
    let levels' = levels ++ now ∷ [] in
    ⊎_elim
    (λ (e : n ≡ m).
    let last : get_or levels' (length names) 0 ≡ now = get_or_push levels now 0 (length names) long in
    let here : get_or position' m 0 ≡ length names = get_or-set_same position m (length names) 0 ml in
    let none : now - get_or levels' (get_or position' n 0) 0 ≡ 0 = ap (λ k. now - get_or levels' (get_or position' k 0) 0) e ∙ ap (λ k. now - get_or levels' k 0) here ∙ ap (λ k. now - k) last ∙ (omega arith) in
    let left : depth_in position' names' levels' now (length names + 1) n ≡ 0 =
    ⊎_elim
    (λ (a : among position' names' (length names + 1) n ≡ true). cond-true _ _ _ a ∙ none)
    (λ (a : among position' names' (length names + 1) n ≡ false). cond-false _ _ _ a)
    (cases_Bool (among position' names' (length names + 1) n)) in
    left ∙ sym (cond-false _ _ _ (ap (λ k. among position names (length names) k) e ∙ out)))
    (λ (ne : n ≡ m → ⊥).
    let same = among_push position names m n ne in
    let ek : get_or position' n 0 ≡ get_or position n 0 = get_or-set_other position m n (length names) 0 ne in
    ⊎_elim
    (λ (a : among position names (length names) n ≡ true).
    let l : get_or position n 0 < length levels = omega (arith, long, (among_position position names (length names) n a).0) in
    let el : get_or levels' (get_or position n 0) 0 ≡ get_or levels (get_or position n 0) 0 = get_or_append_left levels (now ∷ []) 0 (get_or position n 0) l in
    cond-true _ _ _ (same ∙ a) ∙ ap (λ k. now - get_or levels' k 0) ek ∙ ap (λ k. now - k) el ∙ sym (cond-true _ _ _ a))
    (λ (a : among position names (length names) n ≡ false). cond-false _ _ _ (same ∙ a) ∙ sym (cond-false _ _ _ a))
    (cases_Bool (among position names (length names) n)))
    (cases_eq n m)

grown_depth : (t t' : Tree) (m i now n : ℕ) → Grows t t' m i now → length t.levels.items ≡ length t.names.items → m < length t.position.items → among t.position.items t.names.items (length t.names.items) m ≡ false → depth_of t' now n ≡ depth_of t now n
grown_depth t t' m i now n g long ml out =
    let p = t.position.items in
    let ns = t.names.items in
    ap (λ l. depth_in l t'.names.items t'.levels.items now (length t'.names.items) n) g.position
    ∙ ap (λ l. depth_in (set p m (length ns)) l t'.levels.items now (length l) n) g.names
    ∙ ap (λ l. depth_in (set p m (length ns)) (ns ++ m ∷ []) l now (length (ns ++ m ∷ [])) n) g.levels
    ∙ ap (λ k. depth_in (set p m (length ns)) (ns ++ m ∷ []) (t.levels.items ++ now ∷ []) now k n) (length_push ns m)
    ∙ push_depth p ns t.levels.items now m n long ml out

grown_height : (t t' : Tree) (m i now : ℕ) (o : Option ℕ) → Grows t t' m i now → length t.levels.items ≡ length t.names.items → m < length t.position.items → among t.position.items t.names.items (length t.names.items) m ≡ false → height_of t' now o ≡ height_of t now o
grown_height t t' m i now None g long ml out = refl
grown_height t t' m i now (Some n) g long ml out = grown_depth t t' m i now n g long ml out

-- the names before the last stay, with their levels
grown_name : (t t' : Tree) (m i now j : ℕ) → Grows t t' m i now → j < length t.names.items → get_or t'.names.items j 0 ≡ get_or t.names.items j 0
grown_name t t' m i now j g l = ap (λ (x : List ℕ). get_or x j 0) g.names ∙ get_or_append_left t.names.items (m ∷ []) 0 j l

grown_level : (t t' : Tree) (m i now j : ℕ) → Grows t t' m i now → length t.levels.items ≡ length t.names.items → j < length t.names.items → level_of t' j ≡ level_of t j
grown_level t t' m i now j g long l = ap (λ (x : List ℕ). get_or x j 0) g.levels ∙ get_or_append_left t.levels.items (now ∷ []) 0 j (omega (arith, l, long))

grown_last : (t t' : Tree) (m i now : ℕ) → Grows t t' m i now → get_or t'.names.items (length t.names.items) 0 ≡ m
grown_last t t' m i now g = ap (λ (x : List ℕ). get_or x (length t.names.items) 0) g.names ∙ get_or_push t.names.items m 0 (length t.names.items) refl

grown_last_level : (t t' : Tree) (m i now : ℕ) → Grows t t' m i now → length t.levels.items ≡ length t.names.items → level_of t' (length t.names.items) ≡ now
grown_last_level t t' m i now g long = ap (λ (x : List ℕ). get_or x (length t.names.items) 0) g.levels ∙ get_or_push t.levels.items now 0 (length t.names.items) long

grown_long : (t t' : Tree) (m i now : ℕ) → Grows t t' m i now → length t'.names.items ≡ length t.names.items + 1
grown_long t t' m i now g = ap length g.names ∙ length_push t.names.items m

pub lazy_push : (s : Solver) (t t' : Tree) (now i v m : ℕ) → IsLazy s t now → i < length t.names.items → (lowered_to s.duals s.pairs t now).owner v ≡ Some m → holds t.position.items t.names.items (length t.names.items) ((lowered_to s.duals s.pairs t now).owner v) ≡ false → IsTightPair (row_weight s.rows.now) (lowered_to s.duals s.pairs t now) (get_or t.names.items i 0) v → Grows t t' m i now → IsLazy s t' now × (root_of t' ≡ root_of t) × (length t'.names.items ≡ length t.names.items + 1) × (length t'.names.items ≤ length s.rows.now.rows) × (level_of t' (length t.names.items) ≡ now)
lazy_push s t t' now i v m q l own free tight g =
    let w = row_weight s.rows.now in
    let a = lowered_to s.duals s.pairs t now in
    let b = lowered_to s.duals s.pairs t' now in
    let size = length s.rows.now.rows in
    let had = q.fair.has m v own in
    let ms : m < size = omega (arith, given_within s.pairs.given.items m v had, q.fits.given_long) in
    let ml : m < length t.position.items = omega (arith, ms, q.position_long) in
    let out : among t.position.items t.names.items (length t.names.items) m ≡ false = sym (holds_given t.position.items t.names.items (length t.names.items) m (a.owner v) own) ∙ free in
    let r : root_of t' ≡ root_of t = grown_name t t' m i now 0 g q.shape.some in
    let hy : (n : ℕ) → b.y n ≡ a.y n = λ n. ap (λ k. y_in s.duals n - k) (grown_depth t t' m i now n g q.levels_long ml out) in
    let hz : (u : ℕ) → b.z u ≡ a.z u = λ u. ap (λ k. z_in s.duals u + k) (grown_height t t' m i now (btree.get nat_cmp s.pairs.owner u) g q.levels_long ml out) in
    let fair = same_fair w a (root_of t) b.y b.z q.fair hy hz in
    let more = push_tree w a size (root_of t) t.position.items t.names.items t.parents.items i v m q.shape ms q.position_long l own had free tight in
    let more' : IsTree w a size (root_of t') t'.position.items t'.names.items t'.parents.items = same_tree w a size (root_of t) (root_of t') (set t.position.items m (length t.names.items)) (t.names.items ++ m ∷ []) (t.parents.items ++ i ∷ []) t'.position.items t'.names.items t'.parents.items r g.position g.names g.parents more in
    let shape = same_shape w a size (root_of t') (root_of t) t'.position.items t'.names.items t'.parents.items b.y b.z q.fair more' hy hz in
    let last = grown_last_level t t' m i now g q.levels_long in
    let long = grown_long t t' m i now g in (
      record {
        lawful = q.lawful;
        fits = q.fits;
        positive = q.positive;
        position_long = ap length g.position ∙ length-set t.position.items m (length t.names.items) ∙ q.position_long;
        levels_long = ap length g.levels ∙ length_push t.levels.items now ∙ ap (λ k. k + 1) q.levels_long ∙ sym long;
        fair = subst (λ (k : ℕ). IsFair w b k) (sym r) fair;
        shape = shape;
        passed = λ j h.
            ⊎_elim
            (λ (c : j < length t.names.items). omega (arith, grown_level t t' m i now j g q.levels_long c, q.passed j c))
            (λ (c : length t.names.items ≤ j). let e : j ≡ length t.names.items = omega (arith, h, long) in let k : level_of t' j ≡ now = ap (level_of t') e ∙ last in omega (arith, k))
            (cases_lt j (length t.names.items));
        starts = grown_level t t' m i now 0 g q.levels_long q.shape.some ∙ q.starts;
        high = q.high;
        cover = q.cover;
      },
      r,
      long,
      tree_short w b size (root_of t') t'.position.items t'.names.items t'.parents.items shape,
      last,
    )

-- a way out stays one
grown_way : (s : Solver) (t t' : Tree) (m i now level at : ℕ) (o : Option ℕ) → length t.levels.items ≡ length t.names.items → Grows t t' m i now → at < length t.names.items → IsWayOut s t level at o → IsWayOut s t' level at o
grown_way s t t' m i now level at None long g l way = omega (arith, way, ap (y_in s.duals) (grown_name t t' m i now at g l), grown_level t t' m i now at g long l)
grown_way s t t' m i now level at (Some v) long g l way =
    let w = row_weight s.rows.now in
    let en = grown_name t t' m i now at g l in
    let el = grown_level t t' m i now at g long l in (
      subst (λ (n : ℕ). 0 < w n v) (sym en) way.0,
      way.1,
      subst (λ (n : ℕ). level + w n v ≡ level_of t' at + y_in s.duals n + z_in s.duals v) (sym en) (omega (arith, way.2, el)),
    )

-- the exit, with the name that came
pub exit_push : (s : Solver) (t t' : Tree) (now i m high : ℕ) (exit exit' : Nearest) → length t.levels.items ≡ length t.names.items → IsExit s t exit → Grows t t' m i now → high ≡ y_in s.duals m → (exit' ≡ exit) ⊎ (exit' ≡ record { level = now + high; at = length t.names.items; number = None }) → exit'.level ≤ exit.level → exit'.level ≤ now + high → IsExit s t' exit'
exit_push s t t' now i m high exit exit' long ex g e one first second =
    let n = length t.names.items in
    let more = grown_long t t' m i now g in
    let last = grown_last t t' m i now g in
    let level = grown_last_level t t' m i now g long in
    let eh : high ≡ y_in s.duals (get_or t'.names.items n 0) = e ∙ ap (y_in s.duals) (sym last) in
    let old = λ (j : ℕ) (c : j < n). ap (y_in s.duals) (grown_name t t' m i now j g c) in
    let least : (j : ℕ) → j < length t'.names.items → exit'.level ≤ level_of t' j + y_in s.duals (get_or t'.names.items j 0) = λ j h.
    ⊎_elim
    (λ (c : j < n). omega (arith, old j c, grown_level t t' m i now j g long c, ex.least j c, first))
    (λ (c : n ≤ j).
    let q : j ≡ n = omega (arith, h, more) in
    subst (λ (k : ℕ). exit'.level ≤ level_of t' k + y_in s.duals (get_or t'.names.items k 0)) (sym q) (omega (arith, eh, level, second)))
    (cases_lt j n) in
    ⊎_elim
    (λ (a : exit' ≡ exit).
    let at : exit'.at ≡ exit.at = ap (λ (x : Nearest). x.at) a in
    record { within = omega (arith, at, ex.within, more); least = least; way = subst (λ (x : Nearest). IsWayOut s t' x.level x.at x.number) (sym a) (grown_way s t t' m i now exit.level exit.at exit.number long g ex.within ex.way) })
    (λ (a : exit' ≡ record { level = now + high; at = n; number = None }).
    let at : exit'.at ≡ n = ap (λ (x : Nearest). x.at) a in
    let way : now + high ≡ level_of t' n + y_in s.duals (get_or t'.names.items n 0) = omega (arith, eh, level) in
    record { within = omega (arith, at, more); least = least; way = subst (λ (x : Nearest). IsWayOut s t' x.level x.at x.number) (sym a) way })
    one

-- the queue, with the name that came: the tree holds its number now
still_free : (t t' : Tree) (m i now : ℕ) (o : Option ℕ) → Grows t t' m i now → (o ≡ Some m → ⊥) → holds t'.position.items t'.names.items (length t'.names.items) o ≡ holds t.position.items t.names.items (length t.names.items) o
still_free t t' m i now None g ne = refl
still_free t t' m i now (Some n) g ne =
    ap (λ l. among l t'.names.items (length t'.names.items) n) g.position
    ∙ ap (λ l. among (set t.position.items m (length t.names.items)) l (length l) n) g.names
    ∙ ap (λ k. among (set t.position.items m (length t.names.items)) (t.names.items ++ m ∷ []) k n) (length_push t.names.items m)
    ∙ among_push t.position.items t.names.items m n (λ e. ne (ap Some e))

pub edges_push : (s : Solver) (t t' : Tree) (now i v m leaves leaves' : ℕ) (edges : List Edge) → IsLazy s t now → IsLazy s t' now → i < length t.names.items → btree.get nat_cmp s.pairs.owner v ≡ Some m → Grows t t' m i now → leaves' ≤ leaves → HasOtherEdges s t now leaves edges v → HasEdges s t' now leaves' edges (length t.names.items)
edges_push s t t' now i v m leaves leaves' edges q q' il own g low has =
    let w = row_weight s.rows.now in
    let n = length t.names.items in
    let more = grown_long t t' m i now g in
    let in' : holds t'.position.items t'.names.items (length t'.names.items) (btree.get nat_cmp s.pairs.owner v) ≡ true =
    holds_given t'.position.items t'.names.items (length t'.names.items) m (btree.get nat_cmp s.pairs.owner v) own
    ∙ ap (λ k. among t'.position.items t'.names.items (length t'.names.items) k) (sym (grown_last t t' m i now g))
    ∙ among_at t'.position.items t'.names.items (length t'.names.items) n (q'.shape.placed n (omega (arith, more))) (omega (arith, more)) in
    let name = λ (j : ℕ) (c : j < n). grown_name t t' m i now j g c in
    let level = λ (j : ℕ) (c : j < n). grown_level t t' m i now j g q.levels_long c in
    record {
      edge = λ k d l.
          let e = has.edge k d l in
          let x = get_or edges k d in
          let en = name x.1.0 e.within in
          let el = level x.1.0 e.within in
          record {
            within = omega (arith, e.within, more);
            weighs = subst (λ (u : ℕ). 0 < w u x.2) (sym en) e.weighs;
            level = subst (λ (u : ℕ). x.0.0 + w u x.2 ≡ level_of t' x.1.0 + y_in s.duals u + z_in s.duals x.2) (sym en) (omega (arith, e.level, el));
            later = e.later;
          };
      all = λ j u l free pos.
          let apart : u ≢ v = λ e. both_ways (holds t'.position.items t'.names.items (length t'.names.items) (btree.get nat_cmp s.pairs.owner v)) (ap (λ x. holds t'.position.items t'.names.items (length t'.names.items) (btree.get nat_cmp s.pairs.owner x)) (sym e) ∙ free) in' in
          let ne : btree.get nat_cmp s.pairs.owner u ≡ Some m → ⊥ = λ e. apart (same_Some _ _ (sym (q.fair.has m u e) ∙ q.fair.has m v own)) in
          let free' : holds t.position.items t.names.items n (btree.get nat_cmp s.pairs.owner u) ≡ false = sym (still_free t t' m i now (btree.get nat_cmp s.pairs.owner u) g ne) ∙ free in
          let pos' : 0 < w (get_or t.names.items j 0) u = subst (λ (x : ℕ). 0 < w x u) (name j l) pos in
          let old = has.all j u l apart free' pos' in
          ⊎_elim
          (λ (a : leaves + w (get_or t.names.items j 0) u ≤ level_of t j + y_in s.duals (get_or t.names.items j 0) + z_in s.duals u).
          inl (subst (λ (x : ℕ). leaves' + w x u ≤ level_of t' j + y_in s.duals x + z_in s.duals u) (sym (name j l)) (omega (arith, a, low, level j l))))
          (λ (a : (e : Edge) × Contains edges e × (e.1.0 ≡ j) × (e.2 ≡ u)). inr a)
          old;
    }

-- ---- the end

-- what is tight at the level is tight once all is lowered to it
pub settled_tight : (s : Solver) (d : Duals) (t : Tree) (now n v : ℕ) → IsSettled s.duals d s.pairs t now (length t.names.items) → IsTightPair (row_weight s.rows.now) (lowered_to s.duals s.pairs t now) n v → IsTightPair (row_weight s.rows.now) (standing d s.pairs) n v
settled_tight s d t now n v e h = record { weighs = h.weighs; equal = omega (arith, h.equal, e.y n, e.z v) }

-- the search at the level that the queue gave, with what is tight there
pub next_lazy : (s : Solver) (t : Tree) (now : ℕ) (best : Nearest) → IsLazy s t now → now ≤ best.level → IsSlack (row_weight s.rows.now) (lowered_to s.duals s.pairs t now) t.position.items t.names.items (best.level - now) → IsLazy s t best.level
next_lazy s t now best q l slack = later_lazy s t now best.level q l slack

pub next_tight : (s : Solver) (t : Tree) (now : ℕ) (best : Nearest) (v : ℕ) → IsLazy s t now → now ≤ best.level → IsSlack (row_weight s.rows.now) (lowered_to s.duals s.pairs t now) t.position.items t.names.items (best.level - now) → best.at < length t.names.items → IsMet (row_weight s.rows.now) (lowered_to s.duals s.pairs t now) t.position.items t.names.items (best.level - now) best.at best.number → best.number ≡ Some v → IsTightPair (row_weight s.rows.now) (lowered_to s.duals s.pairs t best.level) (get_or t.names.items best.at 0) v × (holds t.position.items t.names.items (length t.names.items) ((lowered_to s.duals s.pairs t best.level).owner v) ≡ false)
next_tight s t now best v q l slack within met e =
    let a = lowered_to s.duals s.pairs t now in
    let b = lowered_to s.duals s.pairs t best.level in
    let met' : IsMet (row_weight s.rows.now) a t.position.items t.names.items (best.level - now) best.at (Some v) = subst (λ (o : Option ℕ). IsMet (row_weight s.rows.now) a t.position.items t.names.items (best.level - now) best.at o) e met in
    tight_from (row_weight s.rows.now) a t.position.items t.names.items b.y b.z (best.level - now) best.at v within (q.shape.placed best.at within) slack (later_lowered s.duals s.pairs t now best.level q.passed l) met'

pub next_zero : (s : Solver) (d : Duals) (t : Tree) (now : ℕ) (best : Nearest) → IsLazy s t now → now ≤ best.level → best.at < length t.names.items → IsMet (row_weight s.rows.now) (lowered_to s.duals s.pairs t now) t.position.items t.names.items (best.level - now) best.at best.number → best.number ≡ None → IsSettled s.duals d s.pairs t best.level (length t.names.items) → get_or d.y.items (get_or t.names.items best.at 0) 0 ≡ 0
next_zero s d t now best q l within met e settled =
    let a = lowered_to s.duals s.pairs t now in
    let b = lowered_to s.duals s.pairs t best.level in
    let met' : IsMet (row_weight s.rows.now) a t.position.items t.names.items (best.level - now) best.at None = subst (λ (o : Option ℕ). IsMet (row_weight s.rows.now) a t.position.items t.names.items (best.level - now) best.at o) e met in
    settled.y (get_or t.names.items best.at 0) ∙ zero_from (row_weight s.rows.now) a t.position.items t.names.items b.y b.z (best.level - now) best.at within (q.shape.placed best.at within) (later_lowered s.duals s.pairs t now best.level q.passed l) met'
