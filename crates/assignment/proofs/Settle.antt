-- One turn of the loop that lowers a tree to a level.
use Rattle.std.proofs.Common.{◌≡◌, ◌≢◌, ℕ, ◌+◌, ◌-◌, ◌<◌, cond, length, get_or, Option, Some, None, refl, sym, ap, ◌∙◌, subst, ⊎_elim, arith}
use Rattle.std.specs.BTreeMap as btree
use Rattle.std.specs.Ordering.{nat_cmp}
use Rattle.std.proofs.lemmas.Bool.{cases_eq, cond-true, cond-false}
use Rattle.assignment.specs.declared.duals.Duals.{Duals}
use Rattle.assignment.specs.declared.pairs.Pairs.{Pairs}
use Rattle.assignment.specs.declared.tree.Tree.{Tree}
use Rattle.assignment.specs.Lazy.{y_in, z_in, level_of, depth_in, height_in, IsSettled, CanSettle}
use Rattle.assignment.proofs.Fair.{among_at, among_not_yet, among_other, is_owner}

-- what one name's lowering says of the potentials
pub record LowersOne (a b : Duals) (p : Pairs) (name d : ℕ) : Type 0 where
  pub here : y_in b name ≡ y_in a name - d
  pub others : (n : ℕ) → n ≢ name → y_in b n ≡ y_in a n
  pub held : (v : ℕ) → get_or p.given.items name None ≡ Some v → z_in b v ≡ z_in a v + d
  pub rest : (v : ℕ) → (get_or p.given.items name None ≡ Some v → ⊥) → z_in b v ≡ z_in a v

late : (t : Tree) (now i : ℕ) → get_or t.position.items (get_or t.names.items i 0) 0 ≡ i → depth_in t.position.items t.names.items t.levels.items now i (get_or t.names.items i 0) ≡ 0
late t now i p = cond-false _ _ _ (among_not_yet t.position.items t.names.items i p)

here : (t : Tree) (now i : ℕ) → get_or t.position.items (get_or t.names.items i 0) 0 ≡ i → depth_in t.position.items t.names.items t.levels.items now (i + 1) (get_or t.names.items i 0) ≡ now - level_of t i
here t now i p = cond-true _ _ _ (among_at t.position.items t.names.items (i + 1) i p (omega arith)) ∙ ap (λ k. now - get_or t.levels.items k 0) p

other : (t : Tree) (now i n : ℕ) → n ≢ get_or t.names.items i 0 → depth_in t.position.items t.names.items t.levels.items now (i + 1) n ≡ depth_in t.position.items t.names.items t.levels.items now i n
other t now i n ne = ap (λ b. cond b (now - get_or t.levels.items (get_or t.position.items n 0) 0) 0) (among_other t.position.items t.names.items i n ne)

height_other : (t : Tree) (now i : ℕ) (o : Option ℕ) → (o ≡ Some (get_or t.names.items i 0) → ⊥) → height_in t.position.items t.names.items t.levels.items now (i + 1) o ≡ height_in t.position.items t.names.items t.levels.items now i o
height_other t now i None ne = refl
height_other t now i (Some n) ne = other t now i n (λ e. ne (ap Some e))

pub settle_more : (start a b : Duals) (p : Pairs) (t : Tree) (now i : ℕ) → CanSettle start p t now → i < length t.names.items → IsSettled start a p t now i → LowersOne a b p (get_or t.names.items i 0) (now - level_of t i) → IsSettled start b p t now (i + 1)
settle_more start a b p t now i can l e one =
    let name = get_or t.names.items i 0 in
    let at = can.placed i l in
    record {
      y = λ n.
          ⊎_elim
          (λ (q : n ≡ name).
          let k : y_in b name ≡ y_in start name - depth_in t.position.items t.names.items t.levels.items now (i + 1) name = omega (arith, one.here, e.y name, late t now i at, here t now i at) in
          subst (λ (m : ℕ). y_in b m ≡ y_in start m - depth_in t.position.items t.names.items t.levels.items now (i + 1) m) (sym q) k)
          (λ (ne : n ≡ name → ⊥). omega (arith, one.others n ne, e.y n, other t now i n ne))
          (cases_eq n name);
      z = λ v.
          let o = btree.get nat_cmp p.owner v in
          ⊎_elim
          (λ (q : o ≡ Some name).
          let held = one.held v (can.has name v q) in
          let h1 : height_in t.position.items t.names.items t.levels.items now i o ≡ 0 = ap (λ x. height_in t.position.items t.names.items t.levels.items now i x) q ∙ late t now i at in
          let h2 : height_in t.position.items t.names.items t.levels.items now (i + 1) o ≡ now - level_of t i = ap (λ x. height_in t.position.items t.names.items t.levels.items now (i + 1) x) q ∙ here t now i at in
          omega (arith, held, e.z v, h1, h2))
          (λ (ne : o ≡ Some name → ⊥).
          let rest = one.rest v (λ g. ne (can.owned name v g)) in
          omega (arith, rest, e.z v, height_other t now i o ne))
          (is_owner o name);
    }
