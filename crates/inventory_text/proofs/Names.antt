-- The names of a path are the components that may stand in one.
use Rattle.std.proofs.Common.{◌≡◌, ◌≢◌, ℕ, ◌<◌, Bool, true, false, not, ◌||◌, ◌==◌, All, List, [], ◌∷◌, length, refl, sym, ap, ◌∙◌, arith, codes}
use Rattle.std.specs.List.{list_any}
use Rattle.std.specs.Str.{bytes_eq}
use Rattle.std.proofs.lemmas.Bool.{and_parts, and_from, or_from, or_left, or_parts, or_right, eq-eqb, eqb-true, false_from_ne_true, false≢true, not-true, true≢false}
use Rattle.std.proofs.lemmas.List.Elements.{All-nil, All-cons, All-weaker}
use Rattle.std.proofs.lemmas.List.Folds.{list_any_none}
use Rattle.std.proofs.lemmas.Slice.Eq.{bytes_eq-Decides}
use Rattle.idtext.specs.Words.{is_filled}
use Rattle.mtree_inv.specs.Paths.{is_bad_component, is_kept}
use Rattle.inventory_text.specs.Listed.{IsName}

abbrev pub is_apart : ℕ → Bool
is_apart b = (b == 47) || (b == 0)

filled : (name : List ℕ) → 0 < length name → is_filled name ≡ true
filled [] some = absurd (omega arith)
filled (b ∷ name) some = refl

filled-back : (name : List ℕ) → is_filled name ≡ true → 0 < length name
filled-back [] e = absurd (false≢true e)
filled-back (b ∷ name) e = omega arith

other : (name word : List ℕ) → name ≢ word → bytes_eq name word ≡ false
other name word h = false_from_ne_true (bytes_eq name word) (λ same. h ((bytes_eq-Decides name word).0 same))

other-back : (name word : List ℕ) → bytes_eq name word ≡ false → name ≢ word
other-back name word e same = true≢false (sym ((bytes_eq-Decides name word).1 same) ∙ e)

together : (b : ℕ) → (b ≢ 47) × (b ≢ 0) → is_apart b ≡ false
together b h = or_from (b == 47) (b == 0) (false_from_ne_true (b == 47) (λ e. h.0 (eqb-true b 47 e))) (false_from_ne_true (b == 0) (λ e. h.1 (eqb-true b 0 e)))

together-back : (b : ℕ) → is_apart b ≡ false → (b ≢ 47) × (b ≢ 0)
together-back b e = (λ is. false≢true (sym e ∙ or_left (b == 47) (b == 0) (eq-eqb b 47 is)), λ is. false≢true (sym e ∙ or_right (b == 47) (b == 0) (eq-eqb b 0 is)))

-- none passes the test
pub none-passes : {X : Type 0} (p : X → Bool) (xs : List X) → list_any p xs ≡ false → All (λ x. p x ≡ false) xs
none-passes p [] e = All-nil (λ x. p x ≡ false)
none-passes p (x ∷ xs) e =
    let both = or_parts (p x) (list_any p xs) e in
    All-cons (λ y. p y ≡ false) x xs both.0 (none-passes p xs both.1)

pub name-kept : (name : List ℕ) → IsName name → is_kept name ≡ true
name-kept name is = and_from (is_filled name) (not (bytes_eq name (codes "."))) (filled name is.filled) (ap not (other name (codes ".") is.not_dot))

pub name-good : (name : List ℕ) → IsName name → is_bad_component name ≡ false
name-good name is =
    or_from (bytes_eq name (codes "..")) (list_any is_apart name) (other name (codes "..") is.not_dot_dot)
    (list_any_none is_apart name (All-weaker (λ b. (b ≢ 47) × (b ≢ 0)) (λ b. is_apart b ≡ false) together name is.plain))

pub name-is : (name : List ℕ) → is_kept name ≡ true → is_bad_component name ≡ false → IsName name
name-is name kept good =
    let some = and_parts (is_filled name) (not (bytes_eq name (codes "."))) kept in
    let bare = or_parts (bytes_eq name (codes "..")) (list_any is_apart name) good in
    record {
      filled = filled-back name some.0;
      not_dot = other-back name (codes ".") (not-true (bytes_eq name (codes ".")) some.1);
      not_dot_dot = other-back name (codes "..") bare.0;
      plain = All-weaker (λ b. is_apart b ≡ false) (λ b. (b ≢ 47) × (b ≢ 0)) together-back name (none-passes is_apart name bare.1);
    }
