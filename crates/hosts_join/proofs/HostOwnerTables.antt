-- What came before a further number keeps its place.
use Rattle.std.proofs.Common.{◌≡◌, ℕ, ◌==◌, cond, List, Some, None, refl, sym, ap, ◌∙◌, inl, inr}
use Rattle.std.specs.List.{All}
use Rattle.std.proofs.lemmas.Bool.{cases_Bool, eqb-true, eq-eqb}
use Rattle.std.proofs.lemmas.List.Elements.{All-weaker}
use Rattle.std.proofs.lemmas.Option.{none-some}
use Rattle.hosts_join.specs.HostOwners.{place_in}
use Rattle.hosts_join.specs.declared.host_owners.Owned.{Owned}

abbrev pub IsOwned : List (ℕ × ℕ) → Owned → Type 0
IsOwned places o = place_in places o.number ≡ Some o.place

module _ (old new : List (ℕ × ℕ)) (number place : ℕ) (free : place_in old number ≡ None)
    (given : (v : ℕ) → place_in new v ≡ cond (number == v) (Some place) (place_in old v)) where
  stays : (o : Owned) → IsOwned old o → IsOwned new o
  stays o was = elim (cases_Bool (number == o.number)) [
    | inl same ↦ absurd (none-some o.place (sym free ∙ ap (place_in old) (eqb-true number o.number same) ∙ was))
    | inr other ↦ given o.number ∙ ap (λ b. cond b (Some place) (place_in old o.number)) other ∙ was
  ]

  pub all-stay : (rows : List Owned) → All (IsOwned old) rows → All (IsOwned new) rows
  all-stay rows are = All-weaker (IsOwned old) (IsOwned new) stays rows are

  pub is-new : IsOwned new (record { number = number; place = place })
  is-new = given number ∙ ap (λ b. cond b (Some place) (place_in old number)) (eq-eqb number number refl)
