-- Lists of what is found.
use Rattle.std.proofs.Common.{◌≡◌, ℕ, ◌+◌, ◌<◌, List, [], ◌∷◌, ◌++◌, length, take, get_or, Option, Some, None, sym, ◌∙◌, ap, append_assoc}
use Rattle.std.specs.List.{filter_map, cons_option}
use Rattle.std.proofs.lemmas.List.{take_more, append-nil}
use Rattle.std.proofs.lemmas.List.Elements.{filter_map-append}

-- what a loop has after `front` once it has seen i items
given_more : {X Y : Type 0} (f : X → Option Y) (xs : List X) (i : ℕ) (d : X) → i < length xs → filter_map f (take (i + 1) xs) ≡ filter_map f (take i xs) ++ cons_option (f (get_or xs i d)) []
given_more f xs i d h = ap (filter_map f) (take_more xs i d h) ∙ filter_map-append f (take i xs) (get_or xs i d ∷ [])

module _ {X Y : Type 0} (f : X → Option Y) (front before next : List Y) (xs : List X) (i : ℕ) (x : X) (below : i < length xs) (at : x ≡ get_or xs i x) (so_far : before ≡ front ++ filter_map f (take i xs)) where
  more : front ++ filter_map f (take (i + 1) xs) ≡ before ++ cons_option (f x) []
  more =
      ap (λ t. front ++ t) (given_more f xs i x below) ∙ ap (λ y. front ++ (filter_map f (take i xs) ++ cons_option (f y) [])) (sym at)
      ∙ sym (append_assoc front (filter_map f (take i xs)) (cons_option (f x) [])) ∙ ap (λ t. t ++ cons_option (f x) []) (sym so_far)

  pub one_found : (y : Y) → f x ≡ Some y → next ≡ before ++ y ∷ [] → next ≡ front ++ filter_map f (take (i + 1) xs)
  one_found y told pushed = pushed ∙ sym (more ∙ ap (λ o. before ++ cons_option o []) told)

  pub none_found : f x ≡ None → before ≡ front ++ filter_map f (take (i + 1) xs)
  none_found told = sym (more ∙ ap (λ o. before ++ cons_option o []) told ∙ append-nil before)
