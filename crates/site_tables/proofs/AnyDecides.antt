-- What tests over lists decide.
use Rattle.std.proofs.Common.{◌≡◌, ◌⊎◌, ℕ, zero, suc, ◌<◌, Bool, true, false, cond, ◌||◌, List, [], ◌∷◌, length, get_or, All, inl, inr, refl, sym, ap, ◌∙◌, subst, arith, true≢false}
use Rattle.std.specs.List.{Any, find, list_all, list_any}
use Rattle.std.specs.Option.{is_some}
use Rattle.std.specs.Prelude.{Decides, Option, Some, None, option_map}
use Rattle.std.proofs.lemmas.Bool.Decides.{Decides-at, Decides-by_and, Decides-like, Decides-or}

module _ {X : Type 0} (P : X → Type 0) where
  to_more : (x : X) (xs : List X) → P x ⊎ Any P xs → Any P (x ∷ xs)
  to_more x xs (inl h) = (0, x, omega arith, refl, h)
  to_more x xs (inr h) = (suc h.0, h.1, omega (arith, h.2), h.3, h.4)

  first_or_more : (x : X) (xs : List X) (k : ℕ) (y : X) → k < length (x ∷ xs) → get_or (x ∷ xs) k y ≡ y → P y → P x ⊎ Any P xs
  first_or_more x xs zero y lt is h = inl (subst P (sym is) h)
  first_or_more x xs (suc k) y lt is h = inr (k, y, omega (arith, lt), is, h)

  pub none_of_none : Any P [] → (Q : Type 0) → Q
  none_of_none h Q = let lt : h.0 < 0 = h.2 in absurd (omega (arith, lt))

module _ {X : Type 0} (p : X → Bool) where
  some_first : (x : X) (o : Option X) (b : Bool) → is_some (cond b (Some x) o) ≡ (b || is_some o)
  some_first x o true = refl
  some_first x o false = refl

  pub some_found : (xs : List X) → is_some (find p xs) ≡ list_any p xs
  some_found [] = refl
  some_found (x ∷ xs) = some_first x (find p xs) (p x) ∙ ap (λ b. p x || b) (some_found xs)

module _ {X : Type 0} (p : X → Bool) (P : X → Type 0) (each : (x : X) → Decides (p x) (P x)) where
  pub any_decides : (xs : List X) → Decides (list_any p xs) (Any P xs)
  any_decides [] = (λ e. absurd (true≢false (sym e)), λ h. none_of_none P h (false ≡ true))
  any_decides (x ∷ xs) =
      Decides-like (p x || list_any p xs) (to_more P x xs) (λ h. first_or_more P x xs h.0 h.1 h.2 h.3 h.4)
      (Decides-or (p x) (list_any p xs) (each x) (any_decides xs))

  pub all_decides : (xs : List X) → Decides (list_all p xs) (All P xs)
  all_decides xs = Decides-by_and p P (list_all p) each refl (λ y ys. refl) xs

  pub find_decides : (xs : List X) → Decides (is_some (find p xs)) (Any P xs)
  find_decides xs = Decides-at (is_some (find p xs)) (list_any p xs) (some_found p xs) (any_decides xs)

  some_mapped : {Y : Type 0} (f : X → Y) (o : Option X) → is_some (option_map f o) ≡ is_some o
  some_mapped f None = refl
  some_mapped f (Some x) = refl

  -- and so where something of what is found is asked for
  pub look_up_decides : {Y : Type 0} (f : X → Y) (xs : List X) → Decides (is_some (option_map f (find p xs))) (Any P xs)
  look_up_decides f xs = Decides-at (is_some (option_map f (find p xs))) (is_some (find p xs)) (some_mapped f (find p xs)) (find_decides xs)
