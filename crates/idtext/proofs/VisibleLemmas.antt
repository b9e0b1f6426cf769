-- What is escaped is visible.
use Rattle.std.proofs.Common.{◌≡◌, ◌≢◌, ℕ, ◌+◌, ◌*◌, ◌/◌, ◌%◌, ◌<◌, Bool, true, false, not, ◌&&◌, ◌==◌, All, List, [], ◌∷◌, ◌++◌, refl, sym, ap, ◌∙◌, arith}
use Rattle.std.specs.Prelude.{nat_le}
use Rattle.std.proofs.lemmas.Bool.{and_from, and_parts, eqb-false, false_from_ne_true, le-leb, leb-true, ne_eqb, not-true, not_from_false}
use Rattle.std.proofs.lemmas.List.Elements.{All-append, All-cons, All-from_recursion, All-head, All-nil, All-same, All-tail}
use Rattle.idtext.specs.Escapes.{escape, escaped, is_plain}
use Rattle.idtext.specs.Laws.{EscapedIsVisible, IsVisible, NothingIsEscaped, OthersAreOctal, VisibleStands}
use Rattle.idtext.proofs.EscapeLemmas.{escape-other, escape-plain}

one-visible : (b : ℕ) (plain : Bool) → is_plain b ≡ plain → b < 256 → All IsVisible (escape b)
one-visible b true e h =
    let both = and_parts (nat_le 33 b) (nat_le b 126) (and_parts (nat_le 33 b && nat_le b 126) (not (b == 92)) e).0 in
    All-same IsVisible (escape b) (b ∷ []) (sym (escape-plain b e))
    (All-cons IsVisible b [] (leb-true 33 b both.0, leb-true b 126 both.1) (All-nil IsVisible))
one-visible b false e h =
    All-same IsVisible (escape b) (92 ∷ (48 + b / 64) ∷ (48 + b / 8 % 8) ∷ (48 + b % 8) ∷ []) (escape-other b e)
    (All-from_recursion IsVisible (92 ∷ (48 + b / 64) ∷ (48 + b / 8 % 8) ∷ (48 + b % 8) ∷ [])
    ((omega arith, omega arith), ((omega arith, omega (arith, h)), ((omega arith, omega arith), ((omega arith, omega arith), tt)))))

pub escaped-visible : EscapedIsVisible
escaped-visible [] all = All-nil IsVisible
escaped-visible (b ∷ bytes) all =
    All-append IsVisible (escape b) (escaped bytes)
    (one-visible b (is_plain b) refl (All-head (λ x. x < 256) b bytes all))
    (escaped-visible bytes (All-tail (λ x. x < 256) b bytes all))

pub nothing-escaped : NothingIsEscaped
nothing-escaped = refl

is-plain : (b : ℕ) → IsVisible b → b ≢ 92 → is_plain b ≡ true
is-plain b seen other =
    and_from (nat_le 33 b && nat_le b 126) (not (b == 92))
    (and_from (nat_le 33 b) (nat_le b 126) (le-leb 33 b seen.0) (le-leb b 126 seen.1))
    (not_from_false (b == 92) (ne_eqb b 92 other))

pub visible-stands : VisibleStands
visible-stands b seen other rest = ap (λ bs. bs ++ escaped rest) (sym (escape-plain b (is-plain b seen other)))

not-plain : (b : ℕ) → ¬ (IsVisible b × (b ≢ 92)) → is_plain b ≡ false
not-plain b unlike = false_from_ne_true (is_plain b) there
  where
    there : is_plain b ≡ true → ⊥
    there e =
        let parts = and_parts (nat_le 33 b && nat_le b 126) (not (b == 92)) e in
        let both = and_parts (nat_le 33 b) (nat_le b 126) parts.0 in
        unlike ((leb-true 33 b both.0, leb-true b 126 both.1), eqb-false b 92 (not-true (b == 92) parts.1))

same-three : (x y z a b c : ℕ) (rest : List ℕ) → x ≡ a → y ≡ b → z ≡ c → 92 ∷ x ∷ y ∷ z ∷ rest ≡ 92 ∷ a ∷ b ∷ c ∷ rest
same-three x y z a b c rest p q r = rw (p, q, r) refl

pub others-octal : OthersAreOctal
others-octal a b c most_a most_b most_c unlike rest =
    let v = a * 64 + b * 8 + c in
    ap (λ bs. bs ++ escaped rest) (escape-other v (not-plain v unlike))
    ∙ same-three (48 + v / 64) (48 + v / 8 % 8) (48 + v % 8) (48 + a) (48 + b) (48 + c) (escaped rest)
    (omega (arith, most_b, most_c)) (omega (arith, most_b, most_c)) (omega (arith, most_c))
