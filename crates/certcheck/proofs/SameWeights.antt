-- Weights that agree give the same first fault.
use Rattle.std.proofs.Common.{◌≡◌, ℕ, zero, suc, ◌+◌, ◌<◌, ◌^◌, Bool, ◌&&◌, cond, ltb, List, [], ◌∷◌, length, Option, Some, None, refl, sym, ap, ◌∙◌}
use Rattle.std.specs.Option.{option_map}
use Rattle.std.specs.Str.{bytes_eq}
use Rattle.idtext.specs.First.{or_else}
use Rattle.hosts_join.specs.declared.Which.{Which}
use Rattle.hosts_join.specs.Accounts.{Account, Accounts, place_of}
use Rattle.hosts_join.specs.Rules.{class_at, first_some, in_pool, is_free_class}
use Rattle.ownership.specs.Mappings.{number_at}
use Rattle.ownership.specs.Potentials.{potential_sum, value_at}
use Rattle.ownership.proofs.SumsBelow.{sum_below-same}
use Rattle.certcheck.specs.Certificate.{Row, Side}
use Rattle.certcheck.specs.Check.{broken, differ, is_uncovered, kind_fault, least_below, mapping_of, missing, outside, potentials_of, repeated, sums_differ, uncovered, uncovered_at, uncovered_in, weight_by}
use Rattle.certcheck.proofs.Faults.{fault_is}
use Rattle.certcheck.proofs.Spots.{place-lt}

least_below-same : (p q : ℕ → Bool) (n : ℕ) → ((v : ℕ) → p v ≡ q v) → least_below p n ≡ least_below q n
unfolding least_below
least_below-same p q zero same = refl
least_below-same p q (suc n) same = ap (λ o. or_else o (cond (p n) (Some n) None)) (least_below-same p q n same) ∙ ap (λ b. or_else (least_below q n) (cond b (Some n) None)) (same n)

first_some-same : {X Z : Type 0} (f g : X → Option Z) (xs : List X) → ((x : X) → f x ≡ g x) → first_some f xs ≡ first_some g xs
first_some-same f g [] same = refl
first_some-same f g (x ∷ xs) same = ap (λ o. or_else o (first_some f xs)) (same x) ∙ ap (λ o. or_else (g x) o) (first_some-same f g xs same)

uncovered_at-same : (a : Accounts) (w w' : ℕ → ℕ → ℕ) (z : List (ℕ × ℕ)) (i y : ℕ) → ((v : ℕ) → w i v ≡ w' i v) → uncovered_at a w z i y ≡ uncovered_at a w' z i y
unfolding uncovered_at
uncovered_at-same a w w' z i y agree = least_below-same (is_uncovered a w z i y) (is_uncovered a w' z i y) (2 ^ 32) (λ v. ap (λ k. in_pool a (class_at a i) v && ltb (y + value_at z v) k) (agree v))

module _ (a : Accounts) (w w' : ℕ → ℕ → ℕ) (agree : (i v : ℕ) → i < length a.names → w i v ≡ w' i v) where
  uncovered_in-same : (z : List (ℕ × ℕ)) (r : Row) (o : Option ℕ) → place_of a.names r.name ≡ o → uncovered_in a w z r o ≡ uncovered_in a w' z r o
  uncovered_in-same z r None e = refl
  uncovered_in-same z r (Some i) e = ap (option_map (λ (v : ℕ). (r.name, v))) (uncovered_at-same a w w' z i r.y (λ v. agree i v (place-lt (λ (x : Account). bytes_eq r.name x.name) a.names i e)))

  uncovered-same : (s : Side) → uncovered a w s ≡ uncovered a w' s
  uncovered-same s = first_some-same (λ (r : Row). uncovered_in a w s.z r (place_of a.names r.name)) (λ (r : Row). uncovered_in a w' s.z r (place_of a.names r.name)) s.rows (λ r. uncovered_in-same s.z r (place_of a.names r.name) refl)

  weight_by-same : (m : List ℕ) → weight_by a w m ≡ weight_by a w' m
  weight_by-same m = sum_below-same (λ i. cond (is_free_class (class_at a i)) (w i (number_at m i)) 0) (λ i. cond (is_free_class (class_at a i)) (w' i (number_at m i)) 0) (length a.names) (λ i l. ap (λ k. cond (is_free_class (class_at a i)) k 0) (agree i (number_at m i) l))

  pub kind_fault-same : (kind : Which) (s : Side) → kind_fault kind a w s ≡ kind_fault kind a w' s
  kind_fault-same kind s =
      let m = missing a s.rows in
      let r = repeated s.rows in
      let o = option_map (λ (x : Row). x.name) (outside a s.rows) in
      let b = option_map (λ (x : Row). x.name) (broken a s.rows) in
      let sums = ap (differ kind (potential_sum (potentials_of a s.rows) s.z)) (sym (weight_by-same (mapping_of a s.rows))) in
      fault_is kind a w s m r o b (uncovered a w' s) (sums_differ kind a w' s) refl refl refl refl (sym (uncovered-same s)) sums
      ∙ sym (fault_is kind a w' s m r o b (uncovered a w' s) (sums_differ kind a w' s) refl refl refl refl refl refl)
