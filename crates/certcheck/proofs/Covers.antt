-- The least number that is not covered, looked for among the numbers that the name has on some host.
use Rattle.std.proofs.Common.{◌≡◌, ℕ, zero, suc, ◌+◌, ◌<◌, ◌≤◌, ◌^◌, min, Bool, true, false, eqb, ltb, List, [], ◌∷◌, map, length, get_or, Option, Some, None, refl, sym, ap, ◌∙◌, ⊎_elim, arith, subst}
use Rattle.std.specs.Option.{option_map_or, MatchOption}
use Rattle.std.proofs.lemmas.List.{get_or_default}
use Rattle.std.proofs.lemmas.Bool.{cases_lt, and_parts, eqb-true, ltb-true, leb-true, false_from_ne_true, false≢true}
use Rattle.hosts_join.specs.declared.Class.{Class}
use Rattle.hosts_join.specs.declared.Class.TheVariants.{Pinned, Regular, System}
use Rattle.hosts_join.specs.declared.Spot.{Spot}
use Rattle.hosts_join.specs.declared.Standing.TheVariants as on
use Rattle.hosts_join.specs.Accounts.{Accounts}
use Rattle.hosts_join.specs.Rules.{account, class_at, first_some, in_pool}
use Rattle.idtext.specs.First.{or_else}
use Rattle.ownership.specs.Counts.{Tally, AreMadeFor}
use Rattle.ownership.specs.Potentials.{value_at}
use Rattle.ownership.specs.Weights.{told_weight}
use Rattle.certcheck.specs.Check.{is_uncovered, uncovered_at}
use Rattle.certcheck.proofs.Least.{least_below_is}
use Rattle.certcheck.proofs.Spots.{Passing, weight_somewhere}

-- the least number that passes, of those of the first spots
pub record IsSearched (test : ℕ → Bool) (spots : List Spot) (count : ℕ) (least : Option ℕ) : Type 0 where
  pub fits : MatchOption least (Unit {0}) (λ b. b < 2 ^ 32)
  pub found : MatchOption least (Unit {0}) (λ b. test b ≡ true)
  pub passed : (k : ℕ) (d : Spot) → k < count → k < length spots → test (get_or spots k d).number ≡ true → MatchOption least ⊥ (λ b. b ≤ (get_or spots k d).number)

-- the numbers of a pool are numbers that an account may have
pub pool_id : (a : Accounts) (c : Class) (v : ℕ) → in_pool a c v ≡ true → v ≤ 4294967294
pool_id a (Pinned p) v h = absurd (false≢true h)
pool_id a Regular v h = leb-true v 4294967294 (and_parts _ _ (and_parts _ _ h).0).0
pool_id a System v h = leb-true v 4294967294 (and_parts _ _ (and_parts _ _ h).0).0

pub uncovered_id : (a : Accounts) (w : ℕ → ℕ → ℕ) (z : List (ℕ × ℕ)) (i y v : ℕ) → is_uncovered a w z i y v ≡ true → v < 2 ^ 32
uncovered_id a w z i y v h =
    let id = pool_id a (class_at a i) v (and_parts (in_pool a (class_at a i) v) (ltb (y + value_at z v) (w i v)) h).0 in
    omega (arith, id)

-- after a spot whose number passes
pub searched_more : (test : ℕ → Bool) (spots : List Spot) (count x : ℕ) (e : Spot) (least : Option ℕ) → count < length spots → x ≡ (get_or spots count e).number → x < 2 ^ 32 → test x ≡ true → IsSearched test spots count least → IsSearched test spots (count + 1) (Some (option_map_or (λ b. min b x) least x))
searched_more test spots count x e None in' is fits here was = record {
  fits = fits;
  found = here;
  passed = λ k d l m u.
      ⊎_elim
      (λ (low : k < count). absurd (was.passed k d low m u))
      (λ (high : count ≤ k).
      let at : count ≡ k = omega arith in
      let same : x ≡ (get_or spots k d).number = is ∙ ap (λ (s : Spot). s.number) (get_or_default spots count e d in' ∙ ap (λ n. get_or spots n d) at) in
      omega (arith, same))
      (cases_lt k count);
}
searched_more test spots count x e (Some b) in' is fits here was = record {
  fits = let small : b < 2 ^ 32 = was.fits in omega (arith, small);
  found =
      let P : ℕ → Type 0 = λ k. test k ≡ true in
      ⊎_elim
      (λ (h : x < b). let e : x ≡ min b x = omega arith in subst P e here)
      (λ (h : b ≤ x). let e : b ≡ min b x = omega arith in subst P e was.found)
      (cases_lt x b);
  passed = λ k d l m u.
      ⊎_elim
      (λ (low : k < count). let le : b ≤ (get_or spots k d).number = was.passed k d low m u in omega (arith, le))
      (λ (high : count ≤ k).
      let at : count ≡ k = omega arith in
      let same : x ≡ (get_or spots k d).number = is ∙ ap (λ (s : Spot). s.number) (get_or_default spots count e d in' ∙ ap (λ n. get_or spots n d) at) in
      omega (arith, same))
      (cases_lt k count);
}

-- after a spot whose number does not pass
pub searched_past : (test : ℕ → Bool) (spots : List Spot) (count : ℕ) (e : Spot) (least : Option ℕ) → count < length spots → test (get_or spots count e).number ≡ false → IsSearched test spots count least → IsSearched test spots (count + 1) least
searched_past test spots count e least in' none was = record {
  fits = was.fits;
  found = was.found;
  passed = λ k d l m u.
      ⊎_elim
      (λ (low : k < count). was.passed k d low m u)
      (λ (high : count ≤ k).
      let at : count ≡ k = omega arith in
      let same : (get_or spots count e).number ≡ (get_or spots k d).number = ap (λ (s : Spot). s.number) (get_or_default spots count e d in' ∙ ap (λ n. get_or spots n d) at) in
      absurd (false≢true (sym none ∙ ap test same ∙ u)))
      (cases_lt k count);
}

-- a number that is not covered has weight, and so it is one that the name has on some host
uncovered_somewhere : (a : Accounts) (tallies : List Tally) (z : List (ℕ × ℕ)) (i y v : ℕ) → AreMadeFor a.names tallies → i < length a.names → is_uncovered a (told_weight a tallies) z i y v ≡ true → Passing (λ (s : Spot). eqb s.number v) (account a i).spots
uncovered_somewhere a tallies z i y v made l u =
    let parts = and_parts (in_pool a (class_at a i) v) (ltb (y + value_at z v) (told_weight a tallies i v)) u in
    let less = ltb-true _ _ parts.1 in
    weight_somewhere a tallies i v made l (omega (arith, less))

-- all spots were passed, and so the answer is that over the whole pool
pub searched_all : (a : Accounts) (tallies : List Tally) (z : List (ℕ × ℕ)) (i y : ℕ) (spots : List Spot) (count : ℕ) (least : Option ℕ) → AreMadeFor a.names tallies → i < length a.names → spots ≡ (account a i).spots → length spots ≤ count → IsSearched (is_uncovered a (told_weight a tallies) z i y) spots count least → least ≡ uncovered_at a (told_weight a tallies) z i y
unfolding uncovered_at
searched_all a tallies z i y spots count least made l same all was = least_below_is (is_uncovered a (told_weight a tallies) z i y) (2 ^ 32) least was.fits (decided least was)
  where
    at : (v : ℕ) → is_uncovered a (told_weight a tallies) z i y v ≡ true → Passing (λ (s : Spot). eqb s.number v) spots
    at v u = let P : List Spot → Type 0 = λ ss. Passing (λ (s : Spot). eqb s.number v) ss in subst P (sym same) (uncovered_somewhere a tallies z i y v made l u)

    bound : (o : Option ℕ) → IsSearched (is_uncovered a (told_weight a tallies) z i y) spots count o → (v : ℕ) → is_uncovered a (told_weight a tallies) z i y v ≡ true → MatchOption o ⊥ (λ b. b ≤ v)
    bound o was v u =
        let d : Spot = record { host = 0; number = 0; standing = on.Regular } in
        let there = at v u in
        let number : (get_or spots there.0 d).number ≡ v = eqb-true _ v (there.2 d) in
        let P : ℕ → Type 0 = λ n. MatchOption o ⊥ (λ b. b ≤ n) in
        subst P number (was.passed there.0 d (omega (arith, there.1, all)) there.1 (ap (is_uncovered a (told_weight a tallies) z i y) number ∙ u))

    decided : (o : Option ℕ) → IsSearched (is_uncovered a (told_weight a tallies) z i y) spots count o → MatchOption o ((v : ℕ) → is_uncovered a (told_weight a tallies) z i y v ≡ false) (λ v. (is_uncovered a (told_weight a tallies) z i y v ≡ true) × ((u : ℕ) → u < v → is_uncovered a (told_weight a tallies) z i y u ≡ false))
    decided None was = λ v. false_from_ne_true _ (λ u. bound None was v u)
    decided (Some b) was = (was.found, λ v h. false_from_ne_true _ (λ u. let le : b ≤ v = bound (Some b) was v u in absurd (omega (arith, le, h))))

-- the first that gives something
pub first_at : {X Y Z : Type 0} (f : X → Y) (g : Y → Option Z) (xs : List X) (i : ℕ) (d : X) (z : Z) → i < length xs → ((k : ℕ) → k < i → g (f (get_or xs k d)) ≡ None) → g (f (get_or xs i d)) ≡ Some z → first_some g (map f xs) ≡ Some z
first_at f g [] i d z l before here = absurd (omega arith)
first_at f g (x ∷ xs) zero d z l before here = ap (λ o. or_else o (first_some g (map f xs))) here
first_at f g (x ∷ xs) (suc i) d z l before here = ap (λ o. or_else o (first_some g (map f xs))) (before 0 (omega arith)) ∙ first_at f g xs i d z (omega arith) (λ k h. before (suc k) (omega arith)) here

pub first_nowhere : {X Y Z : Type 0} (f : X → Y) (g : Y → Option Z) (xs : List X) → ((k : ℕ) (d : X) → k < length xs → g (f (get_or xs k d)) ≡ None) → first_some g (map f xs) ≡ None
first_nowhere f g [] none = refl
first_nowhere f g (x ∷ xs) none = ap (λ o. or_else o (first_some g (map f xs))) (none 0 x (omega arith)) ∙ first_nowhere f g xs (λ k d h. none (suc k) d (omega arith))
