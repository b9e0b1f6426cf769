-- What the solver's end proves of the completed mapping.
use Rattle.std.proofs.Common.{◌≡◌, ℕ, ◌+◌, ◌<◌, eqb, List, length, get_or, Option, Some, None, unwrap_or, refl, sym, ap, ◌∙◌, subst, arith}
use Rattle.std.specs.BTreeMap as btree
use Rattle.std.specs.Map.{keys_of}
use Rattle.std.specs.Ordering.{nat_cmp}
use Rattle.std.specs.List.{slice_get}
use Rattle.std.proofs.lemmas.Cmp.{nat_cmp_total}
use Rattle.std.proofs.lemmas.Map.Keys.{any_passes_from_place}
use Rattle.std.proofs.lemmas.Map.Entries.{btree_map_get_place}
use Rattle.std.proofs.lemmas.Bool.{eq-eqb}
use Rattle.std.proofs.lemmas.Option.{same_Some, none-some, slice_get-get_or}
use Rattle.std.proofs.lemmas.List.{get_or_default}
use Rattle.ownership.specs.Mappings.{number_at, IsAdmissible}
use Rattle.ownership.specs.Potentials.{value_at}
use Rattle.ownership.specs.Weights.{IsFilled}
use Rattle.candidates.specs.Fill.{gift, IsPartial, Waits}
use Rattle.candidates.specs.Rows.{Choices, AreRows}
use Rattle.assignment.specs.declared.solver.Solver.{Solver}
use Rattle.assignment.specs.Solutions.{row_weight, Proves, IsFreshIn}
use Rattle.assignment.specs.Solving.{standing, IsServing}
use Rattle.assignment.proofs.Equal.{distinct_list, over_same, over_all, weighs_all, value_at_lookup, ascends_from_ordered, distinct_from_ordered}
use Rattle.assignment.proofs.Filled.{filled_fewer, number_is_id}
use Rattle.assignment.proofs.Nearest.{given_within, z_small}
use Rattle.assignment.proofs.Sums.{by_index}
use Rattle.assignment.proofs.Weigh.{row_weight_small}

-- what was given stays in the mapping
abbrev pub Stays : List (Option ℕ) → List ℕ → Type 0
Stays given m = (i v : ℕ) → gift given i ≡ Some v → number_at m i ≡ v

pub is_partial : (s : Solver) (next : ℕ) → IsServing s next → IsPartial s.rows.now s.pairs.given.items
is_partial s next q = record {
  len = q.fits.given_long;
  candidate = λ i v e. let w = (q.fair.tight i v e).weighs in omega (arith, w);
  distinct = λ i j v e f. same_Some _ _ (sym (q.fair.owned i v e) ∙ q.fair.owned j v f);
}

-- as many numbers as rows
long : (s : Solver) (next : ℕ) (m : List ℕ) → IsServing s next → IsAdmissible s.rows.now.accounts m → length m ≡ length s.rows.now.rows
long s next m q ok = ok.len ∙ sym q.lawful.len

-- nobody has the number of a name that was given none
free_of : (s : Solver) (m : List ℕ) (n : ℕ) (o : Option ℕ) → IsServing s (length s.rows.now.rows) → IsAdmissible s.rows.now.accounts m → Stays s.pairs.given.items m → n < length s.rows.now.rows → gift s.pairs.given.items n ≡ None → (standing s.duals s.pairs).owner (number_at m n) ≡ o → (standing s.duals s.pairs).z (number_at m n) ≡ 0
free_of s m n None q ok c l none e = q.fair.zero_free (number_at m n) e
free_of s m n (Some k) q ok c l none e =
    let given = s.pairs.given.items in
    let had = q.fair.has k (number_at m n) e in
    let size = long s (length s.rows.now.rows) m q ok in
    let inside = given_within given k (number_at m n) had in
    let same : k ≡ n = ok.distinct k n (omega (arith, inside, size, q.fits.given_long)) (omega (arith, l, size)) (c k (number_at m n) had) in
    absurd (none-some (number_at m n) (sym none ∙ ap (gift given) (sym same) ∙ had))

keeps_by : (s : Solver) (m : List ℕ) (n : ℕ) (o : Option ℕ) → IsServing s (length s.rows.now.rows) → IsAdmissible s.rows.now.accounts m → Stays s.pairs.given.items m → n < length s.rows.now.rows → gift s.pairs.given.items n ≡ o → row_weight s.rows.now n (number_at m n) ≡ (standing s.duals s.pairs).y n + (standing s.duals s.pairs).z (number_at m n)
keeps_by s m n None q ok c l e =
    let v = number_at m n in
    let a = q.fair.zero_left n l e in
    let b = free_of s m n ((standing s.duals s.pairs).owner v) q ok c l e refl in
    omega (arith, a, b, q.fair.cover n v)
keeps_by s m n (Some v) q ok c l e = subst (λ (u : ℕ). row_weight s.rows.now n u ≡ (standing s.duals s.pairs).y n + (standing s.duals s.pairs).z u) (sym (c n v e)) (q.fair.tight n v e).equal

keeps : (s : Solver) (m : List ℕ) (n : ℕ) → IsServing s (length s.rows.now.rows) → IsAdmissible s.rows.now.accounts m → Stays s.pairs.given.items m → n < length s.rows.now.rows → row_weight s.rows.now n (number_at m n) ≡ (standing s.duals s.pairs).y n + (standing s.duals s.pairs).z (number_at m n)
keeps s m n q ok c l = keeps_by s m n (gift s.pairs.given.items n) q ok c l refl

-- a number that some name has in the mapping
record IsHeld (m : List ℕ) (v : ℕ) : Type 0 where
  by : ℕ
  within : by < length m
  has : number_at m by ≡ v

-- each number of z is somebody's
held_by : (s : Solver) (m : List ℕ) (k x : ℕ) (o : Option ℕ) → IsServing s (length s.rows.now.rows) → IsAdmissible s.rows.now.accounts m → Stays s.pairs.given.items m → btree.get nat_cmp s.duals.z k ≡ Some x → (standing s.duals s.pairs).owner k ≡ o → IsHeld m k
held_by s m k x None q ok c e f =
    let a = q.fair.zero_free k f in
    let b : (standing s.duals s.pairs).z k ≡ x = ap (λ o. unwrap_or o 0) e in
    absurd (omega (arith, a, b, q.positive k x e))
held_by s m k x (Some n) q ok c e f =
    let had = q.fair.has n k f in
    let inside = given_within s.pairs.given.items n k had in
    record { by = n; within = omega (arith, inside, long s (length s.rows.now.rows) m q ok, q.fits.given_long); has = c n k had }

-- ---- the whole

pub proves : (s : Solver) (m : List ℕ) → IsServing s (length s.rows.now.rows) → btree.IsOrdered nat_cmp s.duals.z → IsAdmissible s.rows.now.accounts m → Stays s.pairs.given.items m → Proves s.rows.now m s.duals.y.items s.duals.z.entries
proves s m q ordered ok c =
    let es = s.duals.z.entries in
    let rows = s.rows.now.rows in
    let st = standing s.duals s.pairs in
    let size = long s (length rows) m q ok in
    let apart = distinct_list m ok.distinct in
    let same : (v : ℕ) → value_at es v ≡ st.z v = λ v. value_at_lookup es v in
    let get : (i : ℕ) (e : ℕ × ℕ) → slice_get es i ≡ Some e → btree.get nat_cmp s.duals.z e.0 ≡ Some e.1 = λ i e h. btree_map_get_place nat_cmp_total s.duals.z i e.0 e.1 ordered h in
    let held : (i : ℕ) (e : ℕ × ℕ) → slice_get es i ≡ Some e → IsHeld m e.0 = λ i e h. held_by s m e.0 e.1 (st.owner e.0) q ok c (get i e h) refl in
    let listed = by_index rows m size in
    let sum1 = weighs_all rows s.duals.y.items m st.z q.fits.y_long size (λ n l. keeps s m n q ok c l) in
    let sum2 = over_same (value_at es) st.z m same in
    let sum3 = over_all es m apart (distinct_from_ordered (keys_of es) ordered) (λ i e h.
    let k = held i e h in
    any_passes_from_place (eqb e.0) m k.by (number_at m k.by) (slice_get-get_or m k.by 0 k.within) (eq-eqb e.0 (number_at m k.by) (sym k.has))) in
    record {
      len = q.fits.y_long;
      fits = λ k d l. let small = q.fair.small k in omega (arith, small, get_or_default s.duals.y.items k d 0 l);
      ascending = ascends_from_ordered es ordered;
      raised = λ k d l.
          let e = get_or es k d in
          let there = slice_get-get_or es k d l in
          let had = held k e there in
          let id = number_is_id s.rows.now.accounts m had.by q.lawful.lawful ok (omega (arith, had.within, ok.len)) in
          let small = z_small (row_weight s.rows.now) st (length rows) e.0 q.fair (row_weight_small s.rows.now q.lawful) in
          let value : st.z e.0 ≡ e.1 = ap (λ o. unwrap_or o 0) (get k e there) in
          record { number = omega (arith, id, had.has); positive = q.positive e.0 e.1 (get k e there); fits = omega (arith, small, value) };
      cover = λ n v l. omega (arith, same v, q.fair.cover n v);
      equal = omega (arith, listed, sum1, sum2, sum3);
    }

-- a name whose number weighs nothing was given none
was_not_given : (s : Solver) (m : List ℕ) (n : ℕ) (o : Option ℕ) → IsServing s (length s.rows.now.rows) → Stays s.pairs.given.items m → row_weight s.rows.now n (number_at m n) ≡ 0 → gift s.pairs.given.items n ≡ o → gift s.pairs.given.items n ≡ None
was_not_given s m n None q c none e = e
was_not_given s m n (Some v) q c none e =
    let weighs = (q.fair.tight n v e).weighs in
    let same : row_weight s.rows.now n (number_at m n) ≡ row_weight s.rows.now n v = ap (row_weight s.rows.now n) (c n v e) in
    absurd (omega (arith, weighs, same, none))

pub filled : (s : Solver) (m : List ℕ) → IsServing s (length s.rows.now.rows) → Stays s.pairs.given.items m → IsFilled s.rows.now.accounts (Waits s.rows.now.accounts s.pairs.given.items) m → IsFilled s.rows.now.accounts (IsFreshIn s.rows.now m) m
filled s m q c f =
    let a = s.rows.now.accounts in
    let given = s.pairs.given.items in
    filled_fewer a (Waits a given) (IsFreshIn s.rows.now m) m (λ i h. (h.free, was_not_given s m i (gift given i) q c h.weightless refl)) f

-- ---- the same at the rows that were passed

pub lawful_at : (s : Solver) (c : Choices) → s.rows.now ≡ c → IsServing s (length c.rows) → AreRows c
lawful_at s c e q = subst AreRows e q.lawful

pub partial_at : (s : Solver) (c : Choices) → s.rows.now ≡ c → IsServing s (length c.rows) → IsPartial c s.pairs.given.items
partial_at s c e q = subst (λ (x : Choices). IsServing s (length x.rows) → IsPartial x s.pairs.given.items) e (λ h. is_partial s (length s.rows.now.rows) h) q

pub proves_at : (s : Solver) (c : Choices) (m : List ℕ) → s.rows.now ≡ c → IsServing s (length c.rows) → btree.IsOrdered nat_cmp s.duals.z → IsAdmissible c.accounts m → Stays s.pairs.given.items m → Proves c m s.duals.y.items s.duals.z.entries
proves_at s c m e q ordered ok stays = subst (λ (x : Choices). IsServing s (length x.rows) → IsAdmissible x.accounts m → Proves x m s.duals.y.items s.duals.z.entries) e (λ h k. proves s m h ordered k stays) q ok

pub filled_at : (s : Solver) (c : Choices) (m : List ℕ) → s.rows.now ≡ c → IsServing s (length c.rows) → Stays s.pairs.given.items m → IsFilled c.accounts (Waits c.accounts s.pairs.given.items) m → IsFilled c.accounts (IsFreshIn c m) m
filled_at s c m e q stays f = subst (λ (x : Choices). IsServing s (length x.rows) → IsFilled x.accounts (Waits x.accounts s.pairs.given.items) m → IsFilled x.accounts (IsFreshIn x m) m) e (λ h k. filled s m h stays k) q f
