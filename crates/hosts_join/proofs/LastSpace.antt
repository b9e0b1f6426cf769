-- What stands before the last space of a text and after it.
use Rattle.std.proofs.Common.{◌≡◌, ℕ, ◌==◌, true, false, ltb, leb, List, [], ◌∷◌, ◌++◌, Option, Some, None, refl, ap, ◌∙◌, arith}
use Rattle.std.specs.Char.{digit_value}
use Rattle.std.specs.List.{list_all}
use Rattle.std.specs.Str.Parse.{digits_value}
use Rattle.std.proofs.lemmas.Bool.{and_parts, eqb-true, ltb-true, ne_eqb}
use Rattle.std.proofs.lemmas.Option.{cond_some, none-some, same_Some}
use Rattle.idtext.specs.Numbers.{greatest_id, id_of, is_numeral, numeral}
use Rattle.idtext.specs.Spaces.{cut_at_last_space, cut_here}

-- the text is its two parts with a space between
cut_parts : (b : ℕ) (bytes : List ℕ) (o : Option (List ℕ × List ℕ)) (p : List ℕ × List ℕ) → ((q : List ℕ × List ℕ) → o ≡ Some q → bytes ≡ q.0 ++ 32 ∷ q.1) → cut_here b bytes o ≡ Some p → b ∷ bytes ≡ p.0 ++ 32 ∷ p.1
cut_parts b bytes (Some q) p rest h =
    let same = same_Some (b ∷ q.0, q.1) p h in
    ap (λ bs. b ∷ bs) (rest q refl) ∙ ap (λ (x : List ℕ × List ℕ). x.0 ++ 32 ∷ x.1) same
cut_parts b bytes None p rest h =
    let both = cond_some {A = List ℕ × List ℕ} (b == 32) ([], bytes) p h in
    ap (λ d. d ∷ bytes) (eqb-true b 32 both.0) ∙ ap (λ (x : List ℕ × List ℕ). x.0 ++ 32 ∷ x.1) both.1

pub cut_says : (text : List ℕ) (p : List ℕ × List ℕ) → cut_at_last_space text ≡ Some p → text ≡ p.0 ++ 32 ∷ p.1
unfolding cut_at_last_space
cut_says [] p h = absurd (none-some p h)
cut_says (b ∷ bytes) p h = cut_parts b bytes (cut_at_last_space bytes) p (λ q e. cut_says bytes q e) h

-- and where no space is in the second part, the text is cut there
abbrev HasNoSpace : List ℕ → Type 0
HasNoSpace [] = Unit {0}
HasNoSpace (b ∷ bytes) = ((b == 32) ≡ false) × HasNoSpace bytes

cut_none : (text : List ℕ) → HasNoSpace text → cut_at_last_space text ≡ None
unfolding cut_at_last_space
cut_none [] none = refl
cut_none (b ∷ bytes) none = rw (cut_none bytes none.1, none.0) refl

cut_at : (front back : List ℕ) → HasNoSpace back → cut_at_last_space (front ++ 32 ∷ back) ≡ Some (front, back)
unfolding cut_at_last_space
cut_at [] back none = rw (cut_none back none) refl
cut_at (b ∷ front) back none = rw (cut_at front back none) refl

-- digits are no spaces
digits_lack : (text : List ℕ) → list_all (λ d. ltb (digit_value d) 10) text ≡ true → HasNoSpace text
digits_lack [] h = tt
digits_lack (b ∷ bytes) h =
    let both = and_parts (ltb (digit_value b) 10) (list_all (λ d. ltb (digit_value d) 10) bytes) h in
    let small = ltb-true (digit_value b) 10 both.0 in
    (ne_eqb b 32 (λ e. let same : digit_value b ≡ digit_value 32 = ap digit_value e in absurd (omega (arith, same, small))), digits_lack bytes both.1)

numeral_lacks : (text : List ℕ) → is_numeral 10 text ≡ true → HasNoSpace text
numeral_lacks [] h = tt
numeral_lacks (b ∷ bytes) h = digits_lack (b ∷ bytes) (and_parts (list_all (λ d. ltb (digit_value d) 10) (b ∷ bytes)) (leb (digits_value 10 (b ∷ bytes)) greatest_id) h).0

id_lacks : (text : List ℕ) (id : ℕ) → id_of text ≡ Some id → HasNoSpace text
unfolding numeral
id_lacks text id h = numeral_lacks text (cond_some (is_numeral 10 text) (digits_value 10 text) id h).0

-- a text and an id
pub cut_before_id : (front back : List ℕ) (id : ℕ) → id_of back ≡ Some id → cut_at_last_space (front ++ 32 ∷ back) ≡ Some (front, back)
cut_before_id front back id h = cut_at front back (id_lacks back id h)
