-- What lowering leaves, and a tree with one name more.
use Rattle.std.proofs.Common.{◌≡◌, ◌≢◌, ℕ, suc, ◌+◌, ◌<◌, ◌≤◌, ◌++◌, true, false, eqb, List, [], ◌∷◌, length, get_or, set, Some, None, refl, sym, ap, ◌∙◌, subst, ⊎_elim, arith, get_or-set_same, get_or-set_other}
use Rattle.std.specs.List.{list_any}
use Rattle.std.proofs.lemmas.Bool.{cases_lt, both_ways, eqb-true, ne_eqb, or_cases}
use Rattle.std.proofs.lemmas.List.{length_push, get_or_append_left, get_or_push, get_or_default}
use Rattle.std.proofs.lemmas.Map.Keys.{IsDistinct-from_apart}
use Rattle.std.proofs.lemmas.Map.Steps.{length-le_from_distinct_below}
use Rattle.assignment.specs.Standing.{Standing, IsTightPair, IsTree, IsSlack, IsMet, among, holds}
use Rattle.assignment.proofs.Fair.{IsLowered, with_duals, among_at, holds_given}

-- the slack that was met is gone: the pair is tight
pub tight_from : (w : ℕ → ℕ → ℕ) (st : Standing) (position names : List ℕ) (y z : ℕ → ℕ) (d i v : ℕ) → i < length names → get_or position (get_or names i 0) 0 ≡ i → IsSlack w st position names d → IsLowered st y z position names (length names) d → IsMet w st position names d i (Some v) → IsTightPair w (with_duals st y z) (get_or names i 0) v × (holds position names (length names) (st.owner v) ≡ false)
tight_from w st position names y z d i v l p slack low met =
    let here = low.y_in (get_or names i 0) (among_at position names (length names) i p l) in
    let there = low.z_out v met.1 in
    let room = slack.exit i l in
    let sum = met.2 in
    (record { weighs = met.0; equal = omega (arith, here, there, room, sum) }, met.1)

-- or the name's y is 0
pub zero_from : (w : ℕ → ℕ → ℕ) (st : Standing) (position names : List ℕ) (y z : ℕ → ℕ) (d i : ℕ) → i < length names → get_or position (get_or names i 0) 0 ≡ i → IsLowered st y z position names (length names) d → IsMet w st position names d i None → y (get_or names i 0) ≡ 0
zero_from w st position names y z d i l p low met =
    let here = low.y_in (get_or names i 0) (among_at position names (length names) i p l) in
    omega (arith, here, met)

-- ---- the tree grows

pub push_tree : (w : ℕ → ℕ → ℕ) (s : Standing) (size root : ℕ) (position names parents : List ℕ) (i v m : ℕ) → IsTree w s size root position names parents → m < size → length position ≡ size → i < length names → s.owner v ≡ Some m → s.given m ≡ Some v → holds position names (length names) (s.owner v) ≡ false → IsTightPair w s (get_or names i 0) v → IsTree w s size root (set position m (length names)) (names ++ m ∷ []) (parents ++ i ∷ [])
push_tree w s size root position names parents i v m tree ms long il own had free tight =
    let n = length names in
    let names' = names ++ m ∷ [] in
    let parents' = parents ++ i ∷ [] in
    let position' = set position m n in
    let ln : length names' ≡ n + 1 = length_push names m in
    let lp : length parents' ≡ length parents + 1 = length_push parents i in
    let old : (j : ℕ) → j < n → get_or names' j 0 ≡ get_or names j 0 = λ j l. get_or_append_left names (m ∷ []) 0 j l in
    let old_parent : (j : ℕ) → j < n → get_or parents' j 0 ≡ get_or parents j 0 = λ j l. get_or_append_left parents (i ∷ []) 0 j (omega (arith, tree.paired)) in
    let last : get_or names' n 0 ≡ m = get_or_push names m 0 n refl in
    let last_parent : get_or parents' n 0 ≡ i = get_or_push parents i 0 n tree.paired in
    let outside : among position names n m ≡ false = sym (holds_given position names n m (s.owner v) own) ∙ free in
    let apart : (j : ℕ) → j < n → get_or names j 0 ≢ m = λ j l e.
    both_ways (among position names n m) outside (ap (λ k. among position names n k) (sym e) ∙ among_at position names n j (tree.placed j l) l) in
    record {
      some = omega (arith, ln);
      paired = lp ∙ ap (λ k. k + 1) tree.paired ∙ sym ln;
      first = old 0 tree.some ∙ tree.first;
      bare = tree.bare;
      placed = λ j h.
          ⊎_elim
          (λ (l : j < n). ap (λ k. get_or position' k 0) (old j l) ∙ get_or-set_other position m (get_or names j 0) n 0 (apart j l) ∙ tree.placed j l)
          (λ (g : n ≤ j).
          let e : j ≡ n = omega (arith, ln, h) in
          ap (λ k. get_or position' (get_or names' k 0) 0) e ∙ ap (λ k. get_or position' k 0) last ∙ get_or-set_same position m n 0 (omega (arith, long)) ∙ sym e)
          (cases_lt j n);
      below = λ j h.
          ⊎_elim
          (λ (l : j < n). omega (arith, old j l, tree.below j l))
          (λ (g : n ≤ j). let e : j ≡ n = omega (arith, ln, h) in let q : get_or names' j 0 ≡ m = ap (λ k. get_or names' k 0) e ∙ last in omega (arith, q))
          (cases_lt j n);
      hung = λ j a h.
          ⊎_elim
          (λ (l : j < n).
          let k = tree.hung j a l in
          let ep = old_parent j l in
          let en : get_or names' (get_or parents' j 0) 0 ≡ get_or names (get_or parents j 0) 0 = ap (λ x. get_or names' x 0) ep ∙ old (get_or parents j 0) (omega (arith, k.earlier)) in
          record { earlier = omega (arith, ep, k.earlier); number = k.number; held = ap s.given (old j l) ∙ k.held; tight = subst (λ (x : ℕ). IsTightPair w s x k.number) (sym en) k.tight })
          (λ (g : n ≤ j).
          let e : j ≡ n = omega (arith, ln, h) in
          let ep : get_or parents' j 0 ≡ i = ap (λ k. get_or parents' k 0) e ∙ last_parent in
          let en : get_or names' (get_or parents' j 0) 0 ≡ get_or names i 0 = ap (λ x. get_or names' x 0) ep ∙ old i il in
          let em : get_or names' j 0 ≡ m = ap (λ k. get_or names' k 0) e ∙ last in
          record { earlier = omega (arith, ep, e, il); number = v; held = ap s.given em ∙ had; tight = subst (λ (x : ℕ). IsTightPair w s x v) (sym en) tight })
          (cases_lt j n);
    }

any_below : (names : List ℕ) (n q : ℕ) → ((i : ℕ) → i < length names → get_or names i 0 < n) → list_any (eqb q) names ≡ true → q < n
any_below [] n q h e = absurd (both_ways false refl e)
any_below (x ∷ xs) n q h e =
    ⊎_elim
    (λ (a : eqb q x ≡ true). let first : x < n = h 0 (omega arith) in omega (arith, eqb-true q x a, first))
    (λ (a : list_any (eqb q) xs ≡ true). any_below xs n q (λ i l. h (suc i) (omega arith)) a)
    (or_cases (eqb q x) (list_any (eqb q) xs) e)

-- a tree has no more names than there are
pub tree_short : (w : ℕ → ℕ → ℕ) (s : Standing) (size root : ℕ) (position names parents : List ℕ) → IsTree w s size root position names parents → length names ≤ size
tree_short w s size root position names parents tree =
    length-le_from_distinct_below names size
    (IsDistinct-from_apart eqb names (λ i j d l m.
    let li : i < length names = omega arith in
    let ei = get_or_default names i d 0 li in
    let ej = get_or_default names j d 0 m in
    ne_eqb _ _ (λ (e : get_or names i d ≡ get_or names j d). absurd (omega (arith, tree.placed i li, tree.placed j m, ap (λ x. get_or position x 0) (sym ei ∙ e ∙ ej))))))
    (λ q e. any_below names size q tree.below e)

-- a tree whose lists are known
pub same_tree : (w : ℕ → ℕ → ℕ) (s : Standing) (size root root' : ℕ) (position names parents position' names' parents' : List ℕ) → root' ≡ root → position' ≡ position → names' ≡ names → parents' ≡ parents → IsTree w s size root position names parents → IsTree w s size root' position' names' parents'
same_tree w s size root root' position names parents position' names' parents' a b c d h =
    subst (λ (r : ℕ). IsTree w s size r position' names' parents') (sym a)
    (subst (λ (l : List ℕ). IsTree w s size root l names' parents') (sym b)
    (subst (λ (l : List ℕ). IsTree w s size root position l parents') (sym c)
    (subst (λ (l : List ℕ). IsTree w s size root position names l) (sym d) h)))
