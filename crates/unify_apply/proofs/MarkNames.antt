-- What a path is that begins with the mark's.
use Rattle.std.proofs.Common.{◌≡◌, inl, inr, ⊎_elim, ℕ, ◌==◌, ◌&&◌, ◌||◌, Bool, true, false, List, [], ◌∷◌, ◌++◌, drop, length, refl, sym, ap, ◌∙◌}
use Rattle.std.specs.Prelude.{◌⊎◌, codes}
use Rattle.std.specs.List.{list_any}
use Rattle.std.specs.Str.{bytes_eq}
use Rattle.std.proofs.lemmas.Bool.{or_cases, or_left, or_right, false≢true}
use Rattle.std.proofs.lemmas.Slice.Eq.{bytes_eq-Decides}
use Rattle.idtext.specs.Pieces.{begins_with}
use Rattle.unify_apply.specs.Told.{behind_mark, is_of_mark}

and-assoc : (a b c : Bool) → (a && (b && c)) ≡ (a && b && c)
and-assoc true b c = refl
and-assoc false b c = refl

one : (mark plan more : List ℕ)
    → bytes_eq plan (mark ++ more) ≡ (begins_with mark plan && bytes_eq (drop (length mark) plan) more)
one [] plan more = refl
one (b ∷ mark) [] more = refl
one (b ∷ mark) (c ∷ plan) more =
    ap (λ t. c == b && t) (one mark plan more)
    ∙ and-assoc (c == b) (begins_with mark plan) (bytes_eq (drop (length mark) plan) more)

and-none : (a : Bool) → false ≡ (a && false)
and-none true = refl
and-none false = refl

and-or : (a b c : Bool) → ((a && b) || (a && c)) ≡ (a && (b || c))
and-or true b c = refl
and-or false b c = refl

behind : (mark plan : List ℕ) (ends : List (List ℕ))
    → list_any (λ more. bytes_eq plan (mark ++ more)) ends
    ≡ (begins_with mark plan && list_any (bytes_eq (drop (length mark) plan)) ends)
behind mark plan [] = and-none (begins_with mark plan)
behind mark plan (more ∷ ends) =
    ap (λ t. t || list_any (λ m. bytes_eq plan (mark ++ m)) ends) (one mark plan more)
    ∙ ap (λ t. (begins_with mark plan && bytes_eq (drop (length mark) plan) more) || t) (behind mark plan ends)
    ∙ and-or (begins_with mark plan) (bytes_eq (drop (length mark) plan) more) (list_any (bytes_eq (drop (length mark) plan)) ends)

-- ---- the law

is-it : (plan path : List ℕ) (more : Bool) → (bytes_eq plan path || more) ≡ true → (plan ≡ path) ⊎ (more ≡ true)
is-it plan path more e =
    ⊎_elim (λ same. inl ((bytes_eq-Decides plan path).0 same)) (λ rest. inr rest) (or_cases (bytes_eq plan path) more e)

-- a path of the mark's, in other words
said : (mark plan : List ℕ)
    → is_of_mark mark plan ≡ (bytes_eq plan mark || list_any (λ more. bytes_eq plan (mark ++ more)) behind_mark)
said mark plan = ap (λ t. bytes_eq plan mark || t) (sym (behind mark plan behind_mark))

none-left : (A : Type 0) → A ⊎ (false ≡ true) → A
none-left A = ⊎_elim (λ a. a) (λ e. absurd (false≢true e))

module _ (mark plan : List ℕ) where
  abbrev at : List ℕ → List ℕ
  at ending = mark ++ ending

  pub taken : is_of_mark mark plan ≡ true
      → (plan ≡ mark) ⊎ ((plan ≡ mark ++ codes ".new") ⊎ ((plan ≡ mark ++ codes ".modes")
      ⊎ (plan ≡ mark ++ codes ".modes.new")))
  taken e =
      ⊎_elim inl (λ a. inr (⊎_elim inl (λ b. inr (⊎_elim inl (λ d. inr (none-left (plan ≡ at (codes ".modes.new")) (is-it plan (at (codes ".modes.new")) false d)))
      (is-it plan (at (codes ".modes")) (bytes_eq plan (at (codes ".modes.new")) || false) b)))
      (is-it plan (at (codes ".new")) (bytes_eq plan (at (codes ".modes")) || (bytes_eq plan (at (codes ".modes.new")) || false)) a)))
      (is-it plan mark (bytes_eq plan (at (codes ".new")) || (bytes_eq plan (at (codes ".modes")) || (bytes_eq plan (at (codes ".modes.new")) || false))) (sym (said mark plan) ∙ e))

itself : (path : List ℕ) → bytes_eq path path ≡ true
itself path = (bytes_eq-Decides path path).1 refl

module _ (mark : List ℕ) where
  abbrev is : List ℕ → List ℕ → Bool
  is more ending = bytes_eq (mark ++ more) (mark ++ ending)

  pub same : is_of_mark mark mark ≡ true
  same = said mark mark ∙ or_left (bytes_eq mark mark) (list_any (λ more. bytes_eq mark (mark ++ more)) behind_mark) (itself mark)

  among : (more : List ℕ) → list_any (λ ending. is more ending) behind_mark ≡ true → is_of_mark mark (mark ++ more) ≡ true
  among more told =
      said mark (mark ++ more) ∙ or_right (bytes_eq (mark ++ more) mark) (list_any (λ ending. is more ending) behind_mark) told

  abbrev new-one : List ℕ
  new-one = codes ".new"

  abbrev modes-one : List ℕ
  modes-one = codes ".modes"

  abbrev last-one : List ℕ
  last-one = codes ".modes.new"

  pub new : is_of_mark mark (mark ++ codes ".new") ≡ true
  new = among new-one (or_left (is new-one new-one) (is new-one modes-one || (is new-one last-one || false)) (itself (mark ++ new-one)))

  pub modes : is_of_mark mark (mark ++ codes ".modes") ≡ true
  modes = among modes-one (or_right (is modes-one new-one) (is modes-one modes-one || (is modes-one last-one || false)) (or_left (is modes-one modes-one) (is modes-one last-one || false) (itself (mark ++ modes-one))))

  pub new_modes : is_of_mark mark (mark ++ codes ".modes.new") ≡ true
  new_modes = among last-one (or_right (is last-one new-one) (is last-one modes-one || (is last-one last-one || false)) (or_right (is last-one modes-one) (is last-one last-one || false) (or_left (is last-one last-one) false (itself (mark ++ last-one)))))
