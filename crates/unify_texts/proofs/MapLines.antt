-- Writing a map line by line.
use Rattle.std.proofs.Common.{◌≡◌, ℕ, zero, suc, ◌+◌, ◌<◌, Bool, true, false, List, [], ◌∷◌, ◌++◌, length, map, take, get_or, flat_map, Some, refl, sym, ap, ◌∙◌, append_assoc, append-nil, arith, inl, inr}
use Rattle.std.specs.Str.{bytes_eq}
use Rattle.std.proofs.lemmas.Bool.{cases_Bool}
use Rattle.std.proofs.lemmas.List.{take_more, map_push}
use Rattle.std.proofs.lemmas.List.Concat.{flat_map-append}
use Rattle.hosts_join.specs.declared.Which.{Which}
use Rattle.hosts_join.specs.Accounts.{Account, Accounts, Pair, no_account, place, place_of}
use Rattle.hosts_join.specs.Lawful.{AreLawfulAccounts}
use Rattle.hosts_join.specs.Order.{name_at}
use Rattle.hosts_join.specs.Rules.{account}
use Rattle.hosts_join.proofs.Grouping.{bytes_same, bytes_refl}
use Rattle.ownership.specs.Mappings.{number_under, number_at}
use Rattle.unify_texts.specs.WrittenMap.{map_line, pair_for}

-- the place of the first that passes
place_first : {X : Type 0} (p : X → Bool) (xs : List X) (i : ℕ) (d : X) → i < length xs → p (get_or xs i d) ≡ true → ((j : ℕ) → j < i → p (get_or xs j d) ≡ false) → place p xs ≡ Some i
place_first p [] i d h hit before = absurd (omega (arith, h))
place_first p (x ∷ xs) zero d h hit before = rw hit refl
place_first p (x ∷ xs) (suc i) d h hit before =
    let rest = place_first p xs i d (omega (arith, h)) hit (λ j l. before (suc j) (omega (arith, l))) in
    rw (before zero (omega arith), rest) refl

-- each name of joined accounts is found at its index
pub place_named : (a : Accounts) (i : ℕ) → AreLawfulAccounts a → i < length a.names → place_of a.names (account a i).name ≡ Some i
place_named a i lawful h = place_first (λ (x : Account). bytes_eq (account a i).name x.name) a.names i no_account h (bytes_refl (account a i).name) (λ j l. elim (cases_Bool (bytes_eq (account a i).name (account a j).name)) [
  | inl t ↦ let same : i ≡ j = lawful.names_differ i j h (omega (arith, h, l)) (bytes_same (account a i).name (account a j).name t) in absurd (omega (arith, l, same))
  | inr f ↦ f
])

module _ (a : Accounts) (m : List ℕ) (kind : Which) where
  abbrev lines_for : List ℕ → List ℕ
  lines_for items = flat_map (map_line kind) (map (pair_for a m) (map (name_at a.names) items))

  -- one line more
  pub map_more : (start text text' items : List ℕ) (k : ℕ) → AreLawfulAccounts a → k < length items → get_or items k 0 < length a.names
      → text ≡ start ++ lines_for (take k items) → text' ≡ text ++ map_line kind (record { name = name_at a.names (get_or items k 0); number = number_at m (get_or items k 0) }) → text' ≡ start ++ lines_for (take (k + 1) items)
  map_more start text text' items k lawful h within so_far pushed =
      let i = get_or items k 0 in
      let name = name_at a.names i in
      let found : place_of a.names name ≡ Some i = place_named a i lawful within in
      let pair : Pair = record { name = name; number = number_at m i } in
      let same : pair_for a m name ≡ pair = ap (λ o. record { name = name; number = number_under m o 0 }) found in
      let items_more : map (pair_for a m) (map (name_at a.names) (take (k + 1) items)) ≡ map (pair_for a m) (map (name_at a.names) (take k items)) ++ pair_for a m name ∷ [] =
      ap (λ es. map (pair_for a m) (map (name_at a.names) es)) (take_more items k 0 h) ∙ ap (map (pair_for a m)) (map_push (name_at a.names) (take k items) i) ∙ map_push (pair_for a m) (map (name_at a.names) (take k items)) name in
      let text_more : lines_for (take (k + 1) items) ≡ lines_for (take k items) ++ map_line kind pair =
      ap (flat_map (map_line kind)) items_more ∙ flat_map-append (map_line kind) (map (pair_for a m) (map (name_at a.names) (take k items))) (pair_for a m name ∷ []) ∙ ap (λ p. lines_for (take k items) ++ (map_line kind p ++ [])) same ∙ ap (λ t. lines_for (take k items) ++ t) (append-nil (map_line kind pair)) in
      pushed ∙ ap (λ t. t ++ map_line kind pair) so_far ∙ append_assoc start (lines_for (take k items)) (map_line kind pair) ∙ ap (λ t. start ++ t) (sym text_more)
