-- What stands in a list that is made from another one.
use Rattle.std.proofs.Common.{◌≡◌, ℕ, zero, suc, ◌<◌, List, [], ◌∷◌, length, get_or, refl, sym, subst, arith, inl, inr}
use Rattle.std.specs.Prelude.{◌⊎◌, flat_map}
use Rattle.std.specs.List.{Contains}
use Rattle.std.proofs.lemmas.List.Elements.{Contains-append_cases, Contains-append_left, Contains-append_right}

pub later : {X : Type 0} (y : X) (ys : List X) (x : X) → Contains ys x → Contains (y ∷ ys) x
later y ys x there = (suc there.0, omega (arith, there.1), there.2)

pub in-flat_map : {X Y : Type 0} (f : X → List Y) (xs : List X) (x : X) (y : Y) → Contains xs x → Contains (f x) y → Contains (flat_map f xs) y
in-flat_map {X} {Y} f xs x y there here = at xs there.0 there.1 there.2
  where
    at : (zs : List X) (k : ℕ) → k < length zs → get_or zs k x ≡ x → Contains (flat_map f zs) y
    at [] k lt e = absurd (omega (arith, lt))
    at (z ∷ zs) zero lt e = Contains-append_left (f z) (flat_map f zs) y (subst (λ (w : X). Contains (f w) y) (sym e) here)
    at (z ∷ zs) (suc k) lt e = Contains-append_right (f z) (flat_map f zs) y (at zs k (omega (arith, lt)) e)

-- the item whose list has it
pub record IsGiven {X Y : Type 0} (f : X → List Y) (xs : List X) (y : Y) : Type 0 where
  pub item : X
  pub among : Contains xs item
  pub gives : Contains (f item) y

pub from-flat_map : {X Y : Type 0} (f : X → List Y) (xs : List X) (y : Y) → Contains (flat_map f xs) y → IsGiven f xs y
from-flat_map f [] y there = absurd (omega (arith, there.1))
from-flat_map f (x ∷ xs) y there = by (Contains-append_cases (f x) (flat_map f xs) y there) (λ within. from-flat_map f xs y within)
  where
    by : Contains (f x) y ⊎ Contains (flat_map f xs) y → (Contains (flat_map f xs) y → IsGiven f xs y) → IsGiven f (x ∷ xs) y
    by (inl here) rest = record { item = x; among = (zero, omega arith, refl); gives = here }
    by (inr more) rest = let it = rest more in record { item = it.item; among = later x xs it.item it.among; gives = it.gives }
