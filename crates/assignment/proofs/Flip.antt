-- The turns of a flip, and how it begins.
use Rattle.std.proofs.Common.{◌≡◌, ◌≢◌, ℕ, ◌+◌, ◌<◌, length, get_or, Option, Some, None, sym, ap, ◌∙◌, subst, ⊎_elim, arith}
use Rattle.std.specs.BTreeMap as btree
use Rattle.std.specs.Ordering.{nat_cmp}
use Rattle.std.proofs.lemmas.Bool.{cases_eq}
use Rattle.std.proofs.lemmas.Option.{same_Some, none-some}
use Rattle.assignment.specs.Solutions.{row_weight}
use Rattle.assignment.specs.declared.duals.Duals.{Duals}
use Rattle.assignment.specs.declared.pairs.Pairs.{Pairs}
use Rattle.assignment.specs.declared.tree.Tree.{Tree}
use Rattle.assignment.specs.declared.solver.Solver.{Solver}
use Rattle.assignment.specs.Standing.{IsTightPair, IsLoose}
use Rattle.assignment.specs.Solving.{standing, IsServing, IsSearching, IsFlipping, root_of}
use Rattle.assignment.proofs.Fair.{Gives, step_loose, last_fair}

abbrev pub given_of : Pairs → ℕ → Option ℕ
given_of p n = get_or p.given.items n None

abbrev pub owner_in : Pairs → ℕ → Option ℕ
owner_in p v = btree.get nat_cmp p.owner v

-- what giving one name a number says of the pairs
pub record GivesOne (a b : Pairs) (name v : ℕ) : Type 0 where
  pub there : given_of b name ≡ Some v
  pub others : (n : ℕ) → n ≢ name → given_of b n ≡ given_of a n
  pub long : length b.given.items ≡ length a.given.items
  pub owns : owner_in b v ≡ Some name
  pub other_owners : (u : ℕ) → u ≢ v → owner_in b u ≡ owner_in a u

gives : (d : Duals) (a b : Pairs) (name v : ℕ) → GivesOne a b name v → Gives (standing d a) (given_of b) (owner_in b) name v
gives d a b name v g = record { there = g.there; others = g.others; owns = g.owns; other_owners = g.other_owners }

-- a name that had a number is not the first
pub not_first : (s : Solver) (t : Tree) (i v u : ℕ) → IsFlipping s t i v → given_of s.pairs (get_or t.names.items i 0) ≡ Some u → 0 < i
not_first s t i v u f had =
    ⊎_elim
    (λ (e : i ≡ 0).
    let first : given_of s.pairs (root_of t) ≡ Some u = ap (λ k. given_of s.pairs (get_or t.names.items k 0)) (sym e) ∙ had in
    absurd (none-some u (sym f.loose.bare ∙ first)))
    (λ (ne : i ≡ 0 → ⊥). omega (arith, ne))
    (cases_eq i 0)

pub flip_earlier : (s : Solver) (t : Tree) (i v u : ℕ) → IsFlipping s t i v → given_of s.pairs (get_or t.names.items i 0) ≡ Some u → get_or t.parents.items i 0 < i
flip_earlier s t i v u f had = (f.loose.hung i (not_first s t i v u f had) (omega arith)).earlier

pub flip_step : (s : Solver) (b : Pairs) (t : Tree) (i v u : ℕ) → IsFlipping s t i v → given_of s.pairs (get_or t.names.items i 0) ≡ Some u → GivesOne s.pairs b (get_or t.names.items i 0) v → IsFlipping (record s { pairs = b }) t (get_or t.parents.items i 0) u
flip_step s b t i v u f had g =
    record {
      lawful = f.lawful;
      fits = record { y_long = f.fits.y_long; given_long = g.long ∙ f.fits.given_long };
      loose = step_loose (row_weight s.rows.now) (standing s.duals s.pairs) (length s.rows.now.rows) (root_of t) t.position.items t.names.items t.parents.items i v u (given_of b) (owner_in b) f.loose (not_first s t i v u f had) had (gives s.duals s.pairs b (get_or t.names.items i 0) v g);
      positive = f.positive;
    }

-- a name that had none is the first, and the flip ends
pub flip_end : (s : Solver) (b : Pairs) (t : Tree) (i v : ℕ) → IsFlipping s t i v → given_of s.pairs (get_or t.names.items i 0) ≡ None → GivesOne s.pairs b (get_or t.names.items i 0) v → IsServing (record s { pairs = b }) (root_of t + 1)
flip_end s b t i v f had g =
    let first : i ≡ 0 =
    ⊎_elim
    (λ (e : i ≡ 0). e)
    (λ (ne : i ≡ 0 → ⊥).
    let h = f.loose.hung i (omega (arith, ne)) (omega arith) in
    absurd (none-some h.number (sym had ∙ h.held)))
    (cases_eq i 0) in
    let loose : IsLoose (row_weight s.rows.now) (standing s.duals s.pairs) (length s.rows.now.rows) (root_of t) t.position.items t.names.items t.parents.items 0 v = subst (λ (k : ℕ). IsLoose (row_weight s.rows.now) (standing s.duals s.pairs) (length s.rows.now.rows) (root_of t) t.position.items t.names.items t.parents.items k v) first f.loose in
    let at : GivesOne s.pairs b (get_or t.names.items 0 0) v = subst (λ (k : ℕ). GivesOne s.pairs b (get_or t.names.items k 0) v) first g in
    record {
      lawful = f.lawful;
      fits = record { y_long = f.fits.y_long; given_long = g.long ∙ f.fits.given_long };
      fair = last_fair (row_weight s.rows.now) (standing s.duals s.pairs) (length s.rows.now.rows) (root_of t) t.position.items t.names.items t.parents.items v (given_of b) (owner_in b) loose (gives s.duals s.pairs b (get_or t.names.items 0 0) v at);
      positive = f.positive;
    }

-- a flip begins at a number that nobody has
pub flip_start : (s : Solver) (t : Tree) (i v : ℕ) → IsSearching s t → i < length t.names.items → owner_in s.pairs v ≡ None → IsTightPair (row_weight s.rows.now) (standing s.duals s.pairs) (get_or t.names.items i 0) v → IsFlipping s t i v
flip_start s t i v q l free tight =
    let fair = q.serving.fair in
    let tree = q.grown.shape in
    record {
      lawful = q.serving.lawful;
      fits = q.serving.fits;
      positive = q.serving.positive;
      loose = record {
        cover = fair.cover;
        small = fair.small;
        tight = fair.tight;
        apart = λ n u h e. none-some n (sym free ∙ ap (owner_in s.pairs) (sym e) ∙ fair.owned n u h);
        owned = fair.owned;
        has = λ n u _ h. fair.has n u h;
        zero_free = λ u _ h. fair.zero_free u h;
        zero_left = fair.zero_left;
        bare = tree.bare;
        link = tight;
        position_in = l;
        paired = tree.paired;
        first = tree.first;
        placed = tree.placed;
        below = tree.below;
        hung = λ j a b. tree.hung j a (omega arith);
      };
    }

-- ---- a name that leaves

-- what taking one name's number says of the pairs
pub record TakesOne (a b : Pairs) (name : ℕ) : Type 0 where
  pub gone : given_of b name ≡ None
  pub others : (n : ℕ) → n ≢ name → given_of b n ≡ given_of a n
  pub long : length b.given.items ≡ length a.given.items
  pub owner : b.owner ≡ a.owner

-- what is given after the taking was given before, and not to the name
taken : (a b : Pairs) (name n u : ℕ) → TakesOne a b name → given_of b n ≡ Some u → (n ≢ name) × (given_of a n ≡ Some u)
taken a b name n u g h =
    ⊎_elim
    (λ (e : n ≡ name). absurd (none-some u (sym g.gone ∙ ap (given_of b) (sym e) ∙ h)))
    (λ (ne : n ≡ name → ⊥). (ne, sym (g.others n ne) ∙ h))
    (cases_eq n name)

-- its number goes to the name before it
pub leave_start : (s : Solver) (b : Pairs) (t : Tree) (i u : ℕ) → IsSearching s t → i < length t.names.items → get_or s.duals.y.items (get_or t.names.items i 0) 0 ≡ 0 → given_of s.pairs (get_or t.names.items i 0) ≡ Some u → TakesOne s.pairs b (get_or t.names.items i 0) → IsFlipping (record s { pairs = b }) t (get_or t.parents.items i 0) u
leave_start s b t i u q l none had g =
    let fair = q.serving.fair in
    let tree = q.grown.shape in
    let name = get_or t.names.items i 0 in
    let w = row_weight s.rows.now in
    let after = standing s.duals b in
    let pos : 0 < i =
    ⊎_elim
    (λ (e : i ≡ 0).
    let first : given_of s.pairs (root_of t) ≡ Some u = ap (λ k. given_of s.pairs (get_or t.names.items k 0)) (sym e) ∙ had in
    absurd (none-some u (sym tree.bare ∙ first)))
    (λ (ne : i ≡ 0 → ⊥). omega (arith, ne))
    (cases_eq i 0) in
    let up = tree.hung i pos l in
    let same : up.number ≡ u = same_Some _ _ (sym up.held ∙ had) in
    let eo : (x : ℕ) → owner_in b x ≡ owner_in s.pairs x = λ x. ap (λ o. btree.get nat_cmp o x) g.owner in
    record {
      lawful = q.serving.lawful;
      fits = record { y_long = q.serving.fits.y_long; given_long = g.long ∙ q.serving.fits.given_long };
      positive = q.serving.positive;
      loose = record {
        cover = fair.cover;
        small = fair.small;
        tight = λ n x h. let p = taken s.pairs b name n x g h in let k = fair.tight n x p.1 in record { weighs = k.weighs; equal = k.equal };
        apart = λ n x h e. let p = taken s.pairs b name n x g h in p.0 (same_Some _ _ (sym (fair.owned n x p.1) ∙ ap (owner_in s.pairs) e ∙ fair.owned name u had));
        owned = λ n x h. let p = taken s.pairs b name n x g h in eo x ∙ fair.owned n x p.1;
        has = λ n x xu h.
            let old : given_of s.pairs n ≡ Some x = fair.has n x (sym (eo x) ∙ h) in
            let apart : n ≢ name = λ e. xu (same_Some _ _ (sym old ∙ ap (given_of s.pairs) e ∙ had)) in
            g.others n apart ∙ old;
        zero_free = λ x _ h. fair.zero_free x (sym (eo x) ∙ h);
        zero_left = λ n a h.
            ⊎_elim
            (λ (e : n ≡ name). ap (λ k. get_or s.duals.y.items k 0) e ∙ none)
            (λ (ne : n ≡ name → ⊥). fair.zero_left n a (sym (g.others n ne) ∙ h))
            (cases_eq n name);
        bare = g.others (root_of t) (λ e. none-some u (sym tree.bare ∙ ap (given_of s.pairs) e ∙ had)) ∙ tree.bare;
        link = let k = up.tight in subst (λ (x : ℕ). IsTightPair w after (get_or t.names.items (get_or t.parents.items i 0) 0) x) same (record { weighs = k.weighs; equal = k.equal });
        position_in = omega (arith, up.earlier);
        paired = tree.paired;
        first = tree.first;
        placed = tree.placed;
        below = tree.below;
        hung = λ j c d.
            let jl : j < length t.names.items = omega (arith, up.earlier) in
            let k = tree.hung j c jl in
            let apart : get_or t.names.items j 0 ≢ name = λ e. absurd (omega (arith, up.earlier, tree.placed j jl, tree.placed i l, ap (λ x. get_or t.position.items x 0) e)) in
            record { earlier = k.earlier; number = k.number; held = g.others (get_or t.names.items j 0) apart ∙ k.held; tight = record { weighs = k.tight.weighs; equal = k.tight.equal } };
      };
    }

-- a name that has none is the root, which waits no more
pub leave_end : (s : Solver) (b : Pairs) (t : Tree) (i : ℕ) → IsSearching s t → i < length t.names.items → get_or s.duals.y.items (get_or t.names.items i 0) 0 ≡ 0 → given_of s.pairs (get_or t.names.items i 0) ≡ None → TakesOne s.pairs b (get_or t.names.items i 0) → IsServing (record s { pairs = b }) (root_of t + 1)
leave_end s b t i q l none had g =
    let fair = q.serving.fair in
    let tree = q.grown.shape in
    let name = get_or t.names.items i 0 in
    let first : i ≡ 0 =
    ⊎_elim
    (λ (e : i ≡ 0). e)
    (λ (ne : i ≡ 0 → ⊥). let h = tree.hung i (omega (arith, ne)) l in absurd (none-some h.number (sym had ∙ h.held)))
    (cases_eq i 0) in
    let root : name ≡ root_of t = ap (λ k. get_or t.names.items k 0) first in
    let eo : (x : ℕ) → owner_in b x ≡ owner_in s.pairs x = λ x. ap (λ o. btree.get nat_cmp o x) g.owner in
    let eg : (n : ℕ) → given_of b n ≡ given_of s.pairs n = λ n.
    ⊎_elim
    (λ (e : n ≡ name). ap (given_of b) e ∙ g.gone ∙ sym had ∙ ap (given_of s.pairs) (sym e))
    (λ (ne : n ≡ name → ⊥). g.others n ne)
    (cases_eq n name) in
    record {
      lawful = q.serving.lawful;
      fits = record { y_long = q.serving.fits.y_long; given_long = g.long ∙ q.serving.fits.given_long };
      positive = q.serving.positive;
      fair = record {
        cover = fair.cover;
        small = fair.small;
        tight = λ n v h. let k = fair.tight n v (sym (eg n) ∙ h) in record { weighs = k.weighs; equal = k.equal };
        owned = λ n v h. eo v ∙ fair.owned n v (sym (eg n) ∙ h);
        has = λ n v h. eg n ∙ fair.has n v (sym (eo v) ∙ h);
        zero_free = λ v h. fair.zero_free v (sym (eo v) ∙ h);
        zero_left = λ n a h.
            ⊎_elim
            (λ (e : n ≡ name). ap (λ k. get_or s.duals.y.items k 0) e ∙ none)
            (λ (ne : n ≡ name → ⊥). fair.zero_left n (omega (arith, ne, root)) (sym (eg n) ∙ h))
            (cases_eq n name);
      };
    }
