-- What a start keeps while it takes over a guess, and what it is in the end.
use Rattle.std.proofs.Common.{◌≡◌, ◌≢◌, ℕ, ◌+◌, true, false, Option, Some, None, IfSome, unwrap_or, refl, sym, ap, ◌∙◌, subst, ⊎_elim, arith}
use Rattle.std.specs.BTreeMap as btree
use Rattle.std.specs.List.{All, Contains}
use Rattle.std.specs.Ordering.{nat_cmp}
use Rattle.std.specs.Option.{is_some}
use Rattle.std.proofs.lemmas.Bool.{cases_eq, both_ways}
use Rattle.std.proofs.lemmas.Cmp.{nat_cmp_total}
use Rattle.std.proofs.lemmas.List.Elements.{All-contains}
use Rattle.std.proofs.lemmas.Map.Lookups.{exact_unsigned}
use Rattle.std.proofs.lemmas.Map.Views.{IfSome-get}
use Rattle.std.proofs.lemmas.Option.{same_Some, none-some}
use Rattle.assignment.specs.Solutions.{row_weight}
use Rattle.assignment.specs.declared.pairs.Pairs.{Pairs}
use Rattle.assignment.specs.declared.solver.Solver.{Solver}
use Rattle.assignment.specs.Standing.{IsTightPair}
use Rattle.assignment.specs.Solving.{standing, IsServing}
use Rattle.assignment.specs.Starting.{IsStarted, IsOwned}
use Rattle.assignment.proofs.Flip.{GivesOne, given_of, owner_in}

pub not_some : (o : Option ℕ) → is_some o ≡ false → o ≡ None
not_some None e = refl
not_some (Some x) e = absurd (both_ways true e refl)

-- the next name gets nothing
pub start_skips : (s : Solver) (next : ℕ) → IsStarted s next → IsStarted s (next + 1)
start_skips s next h =
    record {
      lawful = h.lawful;
      fits = h.fits;
      cover = h.cover;
      small = h.small;
      tight = h.tight;
      owned = h.owned;
      has = h.has;
      later = λ n l. h.later n (omega arith);
    }

-- the next name gets a number that nobody has
pub start_gives : (s : Solver) (b : Pairs) (name v : ℕ) → IsStarted s name → owner_in s.pairs v ≡ None → IsTightPair (row_weight s.rows.now) (standing s.duals s.pairs) name v → GivesOne s.pairs b name v → IsStarted (record s { pairs = b }) (name + 1)
start_gives s b name v h free pair g =
    let w = row_weight s.rows.now in
    let after = standing s.duals b in
    record {
      lawful = h.lawful;
      fits = record { y_long = h.fits.y_long; given_long = g.long ∙ h.fits.given_long };
      cover = h.cover;
      small = h.small;
      tight = λ n u e.
          ⊎_elim
          (λ (q : n ≡ name).
          let same : u ≡ v = same_Some _ _ (sym e ∙ ap (given_of b) q ∙ g.there) in
          let here : IsTightPair w after name v = record { weighs = pair.weighs; equal = pair.equal } in
          subst (λ (k : ℕ). IsTightPair w after k u) (sym q) (subst (λ (k : ℕ). IsTightPair w after name k) (sym same) here))
          (λ (ne : n ≡ name → ⊥).
          let k = h.tight n u (sym (g.others n ne) ∙ e) in
          record { weighs = k.weighs; equal = k.equal })
          (cases_eq n name);
      owned = λ n u e.
          ⊎_elim
          (λ (q : n ≡ name).
          let same : u ≡ v = same_Some _ _ (sym e ∙ ap (given_of b) q ∙ g.there) in
          ap (owner_in b) same ∙ g.owns ∙ ap Some (sym q))
          (λ (ne : n ≡ name → ⊥).
          let old : owner_in s.pairs u ≡ Some n = h.owned n u (sym (g.others n ne) ∙ e) in
          let apart : u ≢ v = λ q. none-some n (sym free ∙ ap (owner_in s.pairs) (sym q) ∙ old) in
          g.other_owners u apart ∙ old)
          (cases_eq n name);
      has = λ n u e.
          ⊎_elim
          (λ (q : u ≡ v).
          let same : name ≡ n = same_Some _ _ (sym g.owns ∙ ap (owner_in b) (sym q) ∙ e) in
          ap (given_of b) (sym same) ∙ g.there ∙ ap Some (sym q))
          (λ (ne : u ≡ v → ⊥).
          let old : given_of s.pairs n ≡ Some u = h.has n u (sym (g.other_owners u ne) ∙ e) in
          let apart : n ≢ name = λ q. none-some u (sym (h.later name (omega arith)) ∙ ap (given_of s.pairs) (sym q) ∙ old) in
          g.others n apart ∙ old)
          (cases_eq u v);
      later = λ n l. g.others n (λ q. absurd (omega (arith, q, l))) ∙ h.later n (omega arith);
    }

-- an entry of z is somebody's
owned_entry : (s : Solver) (v x : ℕ) → All (IsOwned s.pairs) s.duals.z.entries → btree.get nat_cmp s.duals.z v ≡ Some x → IsOwned s.pairs (v, x)
owned_entry s v x all e =
    let has : Contains s.duals.z.entries (v, x) = subst (λ (o : Option ℕ). IfSome o (λ y. Contains s.duals.z.entries (v, y))) e (IfSome-get nat_cmp_total exact_unsigned s.duals.z v) in
    All-contains (IsOwned s.pairs) s.duals.z.entries (v, x) all has

-- a number that nobody has is in no entry
zero_unowned : (s : Solver) (v : ℕ) (o : Option ℕ) → All (IsOwned s.pairs) s.duals.z.entries → owner_in s.pairs v ≡ None → btree.get nat_cmp s.duals.z v ≡ o → unwrap_or o 0 ≡ 0
zero_unowned s v None all free e = refl
zero_unowned s v (Some x) all free e = absurd ((owned_entry s v x all e).1 free)

-- where each potential of a number is somebody's, the searches may begin
pub start_serves : (s : Solver) (next : ℕ) → IsStarted s next → All (IsOwned s.pairs) s.duals.z.entries → IsServing s 0
start_serves s next h all =
    record {
      lawful = h.lawful;
      fits = h.fits;
      positive = λ v x e. (owned_entry s v x all e).0;
      fair = record {
        cover = h.cover;
        small = h.small;
        tight = h.tight;
        owned = h.owned;
        has = h.has;
        zero_free = λ v e. zero_unowned s v (btree.get nat_cmp s.duals.z v) all e refl;
        zero_left = λ n l e. absurd (omega (arith, l));
      };
    }

-- ---- a name that need not be searched for

-- it has a number
pub serve_given : (s : Solver) (root : ℕ) → IsServing s root → is_some (given_of s.pairs root) ≡ true → IsServing s (root + 1)
serve_given s root h e =
    record {
      lawful = h.lawful;
      fits = h.fits;
      positive = h.positive;
      fair = record {
        cover = h.fair.cover;
        small = h.fair.small;
        tight = h.fair.tight;
        owned = h.fair.owned;
        has = h.fair.has;
        zero_free = h.fair.zero_free;
        zero_left = λ n l q.
            ⊎_elim
            (λ (a : n ≡ root). absurd (both_ways (is_some (given_of s.pairs root)) (ap is_some (ap (given_of s.pairs) (sym a) ∙ q)) e))
            (λ (ne : n ≡ root → ⊥). h.fair.zero_left n (omega (arith, l, ne)) q)
            (cases_eq n root);
      };
    }
