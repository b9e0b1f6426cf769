-- What holds of each byte of a text holds of each byte of its pieces, and of its lines.
use Rattle.std.proofs.Common.{ℕ, List, [], ◌∷◌, ◌==◌, inl, inr}
use Rattle.std.specs.List.{AllByRecursion, onto_first, slice_split}
use Rattle.std.proofs.lemmas.Bool.{cases_Bool}
use Rattle.idtext.specs.Pieces.{lines, pieces, without_empty_last}

-- what holds of all parts holds of them without an empty one after them
pub without-last : (Holds : List ℕ → Type 0) (parts : List (List ℕ)) → AllByRecursion Holds parts → AllByRecursion Holds (without_empty_last parts)
without-last Holds [] all = tt
without-last Holds ([] ∷ []) all = tt
without-last Holds ((x ∷ xs) ∷ []) all = all
without-last Holds (x ∷ y ∷ more) all = (all.0, without-last Holds (y ∷ more) all.1)

module _ (Holds : ℕ → Type 0) where
  pub onto-each : (b : ℕ) → Holds b → (parts : List (List ℕ)) → AllByRecursion (AllByRecursion Holds) parts → AllByRecursion (AllByRecursion Holds) (onto_first b parts)
  onto-each b is [] all = ((is, tt), tt)
  onto-each b is (part ∷ parts) all = ((is, all.0), all.1)

  each-split : (s : ℕ) (text : List ℕ) → AllByRecursion Holds text → AllByRecursion (AllByRecursion Holds) (slice_split (λ b. b == s) text)
  each-split s [] all = (tt, tt)
  each-split s (x ∷ xs) all = elim (cases_Bool (x == s)) [
    | inl t ↦ rw t (tt, each-split s xs all.1)
    | inr f ↦ rw f (onto-each x all.0 (slice_split (λ b. b == s) xs) (each-split s xs all.1))
  ]

  pub each-piece : (s : ℕ) (text : List ℕ) → AllByRecursion Holds text → AllByRecursion (AllByRecursion Holds) (pieces s text)
  unfolding pieces
  each-piece s text all = each-split s text all

  pub each-line : (text : List ℕ) → AllByRecursion Holds text → AllByRecursion (AllByRecursion Holds) (lines text)
  unfolding lines
  each-line text all = without-last (AllByRecursion Holds) (pieces 10 text) (each-piece 10 text all)
