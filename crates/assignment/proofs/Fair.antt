-- The steps of a search keep what it keeps.
use Rattle.std.proofs.Common.{◌≡◌, ◌≢◌, ℕ, ◌+◌, ◌-◌, ◌<◌, ◌≤◌, ◌&&◌, true, false, ltb, eqb, List, length, get_or, Option, Some, None, refl, sym, ap, ◌∙◌, subst, ⊎_elim, ◌⊎◌, inl, inr, arith}
use Rattle.std.proofs.lemmas.Bool.{ltb-true, lt-ltb, le-ltb, eqb-true, eq-eqb, ne_eqb, and_parts, and_from, and_left, and_right, cases_Bool, cases_eq, cases_lt}
use Rattle.std.proofs.lemmas.Option.{same_Some, none-some}
use Rattle.assignment.specs.Standing.{Standing, IsTightPair, IsFair, among, holds, IsTree, IsSlack, IsLoose}

-- ---- among

-- a name among the first t has its position there
pub among_position : (position names : List ℕ) (t n : ℕ) → among position names t n ≡ true → (get_or position n 0 < t) × (get_or names (get_or position n 0) 0 ≡ n)
among_position position names t n h =
    let p = and_parts (ltb (get_or position n 0) t) (eqb (get_or names (get_or position n 0) 0) n) h in
    (ltb-true _ _ p.0, eqb-true _ _ p.1)

pub among_at : (position names : List ℕ) (t i : ℕ) → get_or position (get_or names i 0) 0 ≡ i → i < t → among position names t (get_or names i 0) ≡ true
among_at position names t i p h = rw p (and_from _ _ (lt-ltb i t h) (eq-eqb _ _ refl))

pub among_not_yet : (position names : List ℕ) (t : ℕ) → get_or position (get_or names t 0) 0 ≡ t → among position names t (get_or names t 0) ≡ false
among_not_yet position names t p =
    let h : ltb (get_or position (get_or names t 0) 0) t ≡ false = le-ltb (get_or position (get_or names t 0) 0) t (omega (arith, p)) in
    and_left _ _ h

pub among_other : (position names : List ℕ) (t n : ℕ) → n ≢ get_or names t 0 → among position names (t + 1) n ≡ among position names t n
among_other position names t n apart =
    ⊎_elim
    (λ (e : get_or position n 0 ≡ t).
    let other : get_or names (get_or position n 0) 0 ≢ n = λ q. apart (sym q ∙ ap (λ k. get_or names k 0) e) in
    and_right _ _ (ne_eqb _ _ other) ∙ sym (and_right _ _ (ne_eqb _ _ other)))
    (λ (ne : get_or position n 0 ≡ t → ⊥).
    ⊎_elim
    (λ (l : get_or position n 0 < t).
    let a : ltb (get_or position n 0) (t + 1) ≡ true = lt-ltb _ _ (omega arith) in
    let b : ltb (get_or position n 0) t ≡ true = lt-ltb _ _ l in
    ap (λ x. x && eqb (get_or names (get_or position n 0) 0) n) (a ∙ sym b))
    (λ (g : t ≤ get_or position n 0).
    let far : t + 1 ≤ get_or position n 0 = omega (arith, ne) in
    let a : ltb (get_or position n 0) (t + 1) ≡ false = le-ltb _ _ far in
    let b : ltb (get_or position n 0) t ≡ false = le-ltb _ _ g in
    ap (λ x. x && eqb (get_or names (get_or position n 0) 0) n) (a ∙ sym b))
    (cases_lt (get_or position n 0) t))
    (cases_eq (get_or position n 0) t)

-- ---- lowering

-- a given number is held exactly where its name is in the tree
pub holds_given : (position names : List ℕ) (t n : ℕ) (o : Option ℕ) → o ≡ Some n → holds position names t o ≡ among position names t n
holds_given position names t n o e = ap (λ x. holds position names t x) e

pub holds_none : (position names : List ℕ) (t : ℕ) (o : Option ℕ) → o ≡ None → holds position names t o ≡ false
holds_none position names t o e = ap (λ x. holds position names t x) e

abbrev pub with_duals : Standing → (ℕ → ℕ) → (ℕ → ℕ) → Standing
with_duals s y z = record s { y = y; z = z }

-- what the tree's names have to be lowered by is theirs
exit_at : (w : ℕ → ℕ → ℕ) (s : Standing) (position names : List ℕ) (d n : ℕ) → IsSlack w s position names d → among position names (length names) n ≡ true → d ≤ s.y n
exit_at w s position names d n h e =
    let p = among_position position names (length names) n e in
    let q = h.exit (get_or position n 0) p.0 in
    subst (λ (k : ℕ). d ≤ s.y k) p.1 q

reach_at : (w : ℕ → ℕ → ℕ) (s : Standing) (position names : List ℕ) (d n v : ℕ) → IsSlack w s position names d → among position names (length names) n ≡ true → holds position names (length names) (s.owner v) ≡ false → w n v + d ≤ s.y n + s.z v
reach_at w s position names d n v h e f =
    let p = among_position position names (length names) n e in
    let q = h.reach (get_or position n 0) v p.0 f in
    subst (λ (k : ℕ). w k v + d ≤ s.y k + s.z v) p.1 q

-- the first t names of the tree are lowered by d, and the numbers that they hold are raised by it
pub record IsLowered (s : Standing) (y' : ℕ → ℕ) (z' : ℕ → ℕ) (position : List ℕ) (names : List ℕ) (t : ℕ) (d : ℕ) : Type 0 where
  pub y_in : (n : ℕ) → among position names t n ≡ true → y' n ≡ s.y n - d
  pub y_out : (n : ℕ) → among position names t n ≡ false → y' n ≡ s.y n
  pub z_in : (v : ℕ) → holds position names t (s.owner v) ≡ true → z' v ≡ s.z v + d
  pub z_out : (v : ℕ) → holds position names t (s.owner v) ≡ false → z' v ≡ s.z v

lowered_tight : (w : ℕ → ℕ → ℕ) (s : Standing) (position names : List ℕ) (d : ℕ) (y z : ℕ → ℕ) → IsSlack w s position names d → IsLowered s y z position names (length names) d → (n v : ℕ) → among position names (length names) n ≡ holds position names (length names) (s.owner v) → IsTightPair w s n v → IsTightPair w (with_duals s y z) n v
lowered_tight w s position names d y z slack low n v same h =
    record {
      weighs = h.weighs;
      equal =
          ⊎_elim
          (λ (e : among position names (length names) n ≡ true).
          let room = exit_at w s position names d n slack e in
          omega (arith, low.y_in n e, low.z_in v (sym same ∙ e), h.equal))
          (λ (e : among position names (length names) n ≡ false). omega (arith, low.y_out n e, low.z_out v (sym same ∙ e), h.equal))
          (cases_Bool (among position names (length names) n));
    }

pub lowered_fair : (w : ℕ → ℕ → ℕ) (s : Standing) (position names : List ℕ) (next d : ℕ) (y z : ℕ → ℕ) → IsFair w s next → IsSlack w s position names d → IsLowered s y z position names (length names) d → IsFair w (with_duals s y z) next
lowered_fair w s position names next d y z fair slack low =
    let t = length names in
    record {
      cover = λ n v.
          ⊎_elim
          (λ (e : among position names t n ≡ true).
          let room = exit_at w s position names d n slack e in
          ⊎_elim
          (λ (f : holds position names t (s.owner v) ≡ true). omega (arith, low.y_in n e, low.z_in v f, fair.cover n v))
          (λ (f : holds position names t (s.owner v) ≡ false). omega (arith, low.y_in n e, low.z_out v f, reach_at w s position names d n v slack e f))
          (cases_Bool (holds position names t (s.owner v))))
          (λ (e : among position names t n ≡ false).
          ⊎_elim
          (λ (f : holds position names t (s.owner v) ≡ true). omega (arith, low.y_out n e, low.z_in v f, fair.cover n v))
          (λ (f : holds position names t (s.owner v) ≡ false). omega (arith, low.y_out n e, low.z_out v f, fair.cover n v))
          (cases_Bool (holds position names t (s.owner v))))
          (cases_Bool (among position names t n));
      small = λ n.
          ⊎_elim
          (λ (e : among position names t n ≡ true). omega (arith, low.y_in n e, fair.small n))
          (λ (e : among position names t n ≡ false). omega (arith, low.y_out n e, fair.small n))
          (cases_Bool (among position names t n));
      tight = λ n v h. lowered_tight w s position names d y z slack low n v (sym (holds_given position names t n (s.owner v) (fair.owned n v h))) (fair.tight n v h);
      owned = fair.owned;
      has = fair.has;
      zero_free = λ v h. low.z_out v (holds_none position names t (s.owner v) h) ∙ fair.zero_free v h;
      zero_left = λ n l h.
          ⊎_elim
          (λ (e : among position names t n ≡ true). omega (arith, low.y_in n e, fair.zero_left n l h))
          (λ (e : among position names t n ≡ false). omega (arith, low.y_out n e, fair.zero_left n l h))
          (cases_Bool (among position names t n));
    }

pub lowered_tree : (w : ℕ → ℕ → ℕ) (s : Standing) (size root next d : ℕ) (position names parents : List ℕ) (y z : ℕ → ℕ) → IsFair w s next → IsTree w s size root position names parents → IsSlack w s position names d → IsLowered s y z position names (length names) d → IsTree w (with_duals s y z) size root position names parents
lowered_tree w s size root next d position names parents y z fair tree slack low =
    let t = length names in
    record {
      some = tree.some;
      paired = tree.paired;
      first = tree.first;
      bare = tree.bare;
      placed = tree.placed;
      below = tree.below;
      hung = λ i l m.
          let h = tree.hung i l m in
          let p = get_or parents i 0 in
          let earlier : p < length names = omega (arith, h.earlier) in
          let a : among position names t (get_or names p 0) ≡ true = among_at position names t p (tree.placed p earlier) earlier in
          let b : among position names t (get_or names i 0) ≡ true = among_at position names t i (tree.placed i m) m in
          let c = holds_given position names t (get_or names i 0) (s.owner h.number) (fair.owned (get_or names i 0) h.number h.held) in
          record {
            earlier = h.earlier;
            number = h.number;
            held = h.held;
            tight = lowered_tight w s position names d y z slack low (get_or names p 0) h.number (a ∙ sym (c ∙ b)) h.tight;
          };
    }

-- ---- the flip

-- the name has the number, and nothing else changes
pub record Gives (s : Standing) (given owner : ℕ → Option ℕ) (name v : ℕ) : Type 0 where
  pub there : given name ≡ Some v
  pub others : (n : ℕ) → n ≢ name → given n ≡ s.given n
  pub owns : owner v ≡ Some name
  pub other_owners : (u : ℕ) → u ≢ v → owner u ≡ s.owner u

abbrev pub with_pairs : Standing → (ℕ → Option ℕ) → (ℕ → Option ℕ) → Standing
with_pairs s given owner = record s { given = given; owner = owner }

-- what each given pair has, after the name at hand got the number v
gives_cases : (s : Standing) (given owner : ℕ → Option ℕ) (name v n u : ℕ) → Gives s given owner name v → given n ≡ Some u → ((n ≡ name) × (u ≡ v)) ⊎ ((n ≢ name) × (s.given n ≡ Some u))
gives_cases s given owner name v n u g h =
    ⊎_elim
    (λ (e : n ≡ name). inl (e, same_Some _ _ (sym h ∙ ap given e ∙ g.there)))
    (λ (ne : n ≡ name → ⊥). inr (ne, sym (g.others n ne) ∙ h))
    (cases_eq n name)

pub step_loose : (w : ℕ → ℕ → ℕ) (s : Standing) (size next : ℕ) (position names parents : List ℕ) (i v u : ℕ) (given owner : ℕ → Option ℕ) → IsLoose w s size next position names parents i v → 0 < i → s.given (get_or names i 0) ≡ Some u → Gives s given owner (get_or names i 0) v → IsLoose w (with_pairs s given owner) size next position names parents (get_or parents i 0) u
step_loose w s size next position names parents i v u given owner h pos had g =
    let name = get_or names i 0 in
    let up = h.hung i pos (omega arith) in
    let same : up.number ≡ u = same_Some _ _ (sym up.held ∙ had) in
    let uv : u ≢ v = h.apart name u had in
    record {
      cover = h.cover;
      small = h.small;
      tight = λ n x q.
          ⊎_elim
          (λ (p : (n ≡ name) × (x ≡ v)). subst (λ k. IsTightPair w (with_pairs s given owner) k x) (sym p.0) (subst (λ k. IsTightPair w (with_pairs s given owner) name k) (sym p.1) (record { weighs = h.link.weighs; equal = h.link.equal })))
          (λ (p : (n ≢ name) × (s.given n ≡ Some x)). let k = h.tight n x p.1 in record { weighs = k.weighs; equal = k.equal })
          (gives_cases s given owner name v n x g q);
      apart = λ n x q.
          ⊎_elim
          (λ (p : (n ≡ name) × (x ≡ v)). λ e. uv (sym e ∙ p.1))
          (λ (p : (n ≢ name) × (s.given n ≡ Some x)). λ e. p.0 (same_Some _ _ (sym (h.owned n x p.1) ∙ ap s.owner e ∙ h.owned name u had)))
          (gives_cases s given owner name v n x g q);
      owned = λ n x q.
          ⊎_elim
          (λ (p : (n ≡ name) × (x ≡ v)). ap owner p.1 ∙ g.owns ∙ ap Some (sym p.0))
          (λ (p : (n ≢ name) × (s.given n ≡ Some x)). g.other_owners x (h.apart n x p.1) ∙ h.owned n x p.1)
          (gives_cases s given owner name v n x g q);
      has = λ n x xu q.
          ⊎_elim
          (λ (e : x ≡ v). let m : name ≡ n = same_Some _ _ (sym g.owns ∙ ap owner (sym e) ∙ q) in ap given (sym m) ∙ g.there ∙ ap Some (sym e))
          (λ (ne : x ≡ v → ⊥).
          let old : s.given n ≡ Some x = h.has n x ne (sym (g.other_owners x ne) ∙ q) in
          let apart : n ≢ name = λ e. xu (same_Some _ _ (sym old ∙ ap s.given e ∙ had)) in
          g.others n apart ∙ old)
          (cases_eq x v);
      zero_free = λ x xu q.
          ⊎_elim
          (λ (e : x ≡ v). absurd (none-some name (sym q ∙ ap owner e ∙ g.owns)))
          (λ (ne : x ≡ v → ⊥). h.zero_free x ne (sym (g.other_owners x ne) ∙ q))
          (cases_eq x v);
      zero_left = λ n l q.
          ⊎_elim
          (λ (e : n ≡ name). absurd (none-some v (sym q ∙ ap given e ∙ g.there)))
          (λ (ne : n ≡ name → ⊥). h.zero_left n l (sym (g.others n ne) ∙ q))
          (cases_eq n name);
      bare = g.others next (λ e. none-some u (sym h.bare ∙ ap s.given e ∙ had)) ∙ h.bare;
      link = let k = up.tight in subst (λ x. IsTightPair w (with_pairs s given owner) (get_or names (get_or parents i 0) 0) x) same (record { weighs = k.weighs; equal = k.equal });
      position_in = omega (arith, up.earlier, h.position_in);
      paired = h.paired;
      first = h.first;
      placed = h.placed;
      below = h.below;
      hung = λ j a b.
          let k = h.hung j a (omega (arith, up.earlier)) in
          let ji : j < i = omega (arith, up.earlier) in
          let jl : j < length names = omega (arith, h.position_in) in
          let apart : get_or names j 0 ≢ name = λ e. absurd (omega (arith, h.placed j jl, h.placed i h.position_in, ap (λ x. get_or position x 0) e)) in
          record { earlier = k.earlier; number = k.number; held = g.others (get_or names j 0) apart ∙ k.held; tight = record { weighs = k.tight.weighs; equal = k.tight.equal } };
    }

-- the last step: the first name of the tree has the number
pub last_fair : (w : ℕ → ℕ → ℕ) (s : Standing) (size next : ℕ) (position names parents : List ℕ) (v : ℕ) (given owner : ℕ → Option ℕ) → IsLoose w s size next position names parents 0 v → Gives s given owner (get_or names 0 0) v → IsFair w (with_pairs s given owner) (next + 1)
last_fair w s size next position names parents v given owner h g =
    let name = get_or names 0 0 in
    let root : name ≡ next = h.first in
    record {
      cover = h.cover;
      small = h.small;
      tight = λ n x q.
          ⊎_elim
          (λ (p : (n ≡ name) × (x ≡ v)). subst (λ k. IsTightPair w (with_pairs s given owner) k x) (sym p.0) (subst (λ k. IsTightPair w (with_pairs s given owner) name k) (sym p.1) (record { weighs = h.link.weighs; equal = h.link.equal })))
          (λ (p : (n ≢ name) × (s.given n ≡ Some x)). let k = h.tight n x p.1 in record { weighs = k.weighs; equal = k.equal })
          (gives_cases s given owner name v n x g q);
      owned = λ n x q.
          ⊎_elim
          (λ (p : (n ≡ name) × (x ≡ v)). ap owner p.1 ∙ g.owns ∙ ap Some (sym p.0))
          (λ (p : (n ≢ name) × (s.given n ≡ Some x)). g.other_owners x (h.apart n x p.1) ∙ h.owned n x p.1)
          (gives_cases s given owner name v n x g q);
      has = λ n x q.
          ⊎_elim
          (λ (e : x ≡ v). let m : name ≡ n = same_Some _ _ (sym g.owns ∙ ap owner (sym e) ∙ q) in ap given (sym m) ∙ g.there ∙ ap Some (sym e))
          (λ (ne : x ≡ v → ⊥).
          let old : s.given n ≡ Some x = h.has n x ne (sym (g.other_owners x ne) ∙ q) in
          let apart : n ≢ name = λ e. none-some x (sym h.bare ∙ ap s.given (sym root ∙ sym e) ∙ old) in
          g.others n apart ∙ old)
          (cases_eq x v);
      zero_free = λ x q.
          ⊎_elim
          (λ (e : x ≡ v). absurd (none-some name (sym q ∙ ap owner e ∙ g.owns)))
          (λ (ne : x ≡ v → ⊥). h.zero_free x ne (sym (g.other_owners x ne) ∙ q))
          (cases_eq x v);
      zero_left = λ n l q.
          ⊎_elim
          (λ (e : n ≡ name). absurd (none-some v (sym q ∙ ap given e ∙ g.there)))
          (λ (ne : n ≡ name → ⊥). h.zero_left n (omega (arith, root, ne)) (sym (g.others n ne) ∙ q))
          (cases_eq n name);
    }

-- whether a number is a name's
pub is_owner : (o : Option ℕ) (n : ℕ) → (o ≡ Some n) ⊎ (o ≡ Some n → ⊥)
is_owner None n = inr (λ e. none-some n e)
is_owner (Some m) n = ⊎_elim (λ (e : m ≡ n). inl (ap Some e)) (λ (ne : m ≡ n → ⊥). inr (λ e. ne (same_Some _ _ e))) (cases_eq m n)
