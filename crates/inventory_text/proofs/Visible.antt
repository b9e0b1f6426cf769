-- Lines of visible bytes and spaces: their words, and that each is a logical line by itself.
use Rattle.std.proofs.Common.{◌≡◌, ℕ, suc, ◌+◌, ◌/◌, ◌%◌, ◌<◌, ◌≤◌, ◌^◌, Bool, true, false, not, ◌&&◌, ◌||◌, ◌==◌, All, List, [], ◌∷◌, ◌++◌, length, get_or, refl, sym, ap, ◌∙◌, arith}
use Rattle.std.specs.Prelude.{nat_le, decimal, filter}
use Rattle.std.specs.List.{list_all}
use Rattle.std.proofs.lemmas.Bool.{and_parts, le-leb, leb-true, not-true, eqb-true}
use Rattle.std.proofs.lemmas.List.Elements.{All-nil, All-cons}
use Rattle.std.proofs.lemmas.List.Folds.{list_all-append}
use Rattle.std.proofs.lemmas.List.Splits.{slice_split_at, slice_split_none}
use Rattle.std.proofs.lemmas.Fmt.{decimal_is_IsNumeral, length-decimal-le}
use Rattle.std.proofs.lemmas.Str.Parse.{digit_at}
use Rattle.idtext.specs.Escapes.{escape, escaped, is_plain}
use Rattle.idtext.specs.Words.{is_filled, is_white, words}
use Rattle.idtext.proofs.EscapeLemmas.{escape-plain, escape-other}
use Rattle.mtree_inv.specs.Logical.{ends_in_backslash}
use Rattle.inventory_text.specs.Writing.{spaced}

-- bytes that are neither control bytes nor spaces, and those that may be spaces
abbrev pub is_visible : List ℕ → Bool
is_visible bytes = list_all (nat_le 33) bytes

abbrev pub is_printed : List ℕ → Bool
is_printed bytes = list_all (nat_le 32) bytes

both : (a b : Bool) → a ≡ true → b ≡ true → (a && b) ≡ true
both true b x y = y
both false b x y = x

pub visible-append : (xs ys : List ℕ) → is_visible xs ≡ true → is_visible ys ≡ true → is_visible (xs ++ ys) ≡ true
visible-append xs ys x y = list_all-append (nat_le 33) xs ys ∙ both (is_visible xs) (is_visible ys) x y

pub printed-append : (xs ys : List ℕ) → is_printed xs ≡ true → is_printed ys ≡ true → is_printed (xs ++ ys) ≡ true
printed-append xs ys x y = list_all-append (nat_le 32) xs ys ∙ both (is_printed xs) (is_printed ys) x y

pub visible-printed : (xs : List ℕ) → is_visible xs ≡ true → is_printed xs ≡ true
visible-printed [] h = refl
visible-printed (x ∷ xs) h =
    let parts = and_parts (nat_le 33 x) (is_visible xs) h in
    both (nat_le 32 x) (is_printed xs) (le-leb 32 x (omega (arith, leb-true 33 x parts.0))) (visible-printed xs parts.1)

-- ---- what is written

escape-visible : (b : ℕ) (plain : Bool) → is_plain b ≡ plain → is_visible (escape b) ≡ true
escape-visible b true e =
    ap is_visible (sym (escape-plain b e)) ∙ both (nat_le 33 b) true (and_parts (nat_le 33 b) (nat_le b 126) (and_parts (nat_le 33 b && nat_le b 126) (not (b == 92)) e).0).0 refl
escape-visible b false e =
    ap is_visible (escape-other b e)
    ∙ both (nat_le 33 (48 + b / 64)) _ (le-leb 33 (48 + b / 64) (omega arith)) (both (nat_le 33 (48 + b / 8 % 8)) _ (le-leb 33 (48 + b / 8 % 8) (omega arith)) (both (nat_le 33 (48 + b % 8)) true (le-leb 33 (48 + b % 8) (omega arith)) refl))

pub escaped-visible : (bytes : List ℕ) → is_visible (escaped bytes) ≡ true
escaped-visible [] = refl
escaped-visible (b ∷ bytes) = visible-append (escape b) (escaped bytes) (escape-visible b (is_plain b) refl) (escaped-visible bytes)

-- the last byte of an escape is no backslash
ends-escape : (b : ℕ) (plain : Bool) → is_plain b ≡ plain → ends_in_backslash (escape b) ≡ false
ends-escape b true e = ap ends_in_backslash (sym (escape-plain b e)) ∙ not-true (b == 92) (and_parts (nat_le 33 b && nat_le b 126) (not (b == 92)) e).1
ends-escape b false e = ap ends_in_backslash (escape-other b e) ∙ digit (48 + b % 8) (omega arith)
  where
    digit : (d : ℕ) → d < 92 → (d == 92) ≡ false
    digit d h = by (d == 92) refl
      where
        by : (t : Bool) → (d == 92) ≡ t → t ≡ false
        by true e = absurd (omega (arith, h, eqb-true d 92 e))
        by false e = refl

-- what stands last decides
pub ends-append : (xs : List ℕ) (y : ℕ) (ys : List ℕ) → ends_in_backslash (xs ++ y ∷ ys) ≡ ends_in_backslash (y ∷ ys)
ends-append [] y ys = refl
ends-append (x ∷ []) y ys = refl
ends-append (x ∷ z ∷ xs) y ys = ends-append (z ∷ xs) y ys

pub ends-either : (xs ys : List ℕ) → ends_in_backslash xs ≡ false → ends_in_backslash ys ≡ false → ends_in_backslash (xs ++ ys) ≡ false
ends-either [] ys x y = y
ends-either (b ∷ []) [] x y = x
ends-either (b ∷ []) (c ∷ ys) x y = y
ends-either (b ∷ c ∷ xs) ys x y = ends-either (c ∷ xs) ys x y

pub ends-escaped : (bytes : List ℕ) → ends_in_backslash (escaped bytes) ≡ false
ends-escaped [] = refl
ends-escaped (b ∷ bytes) = ends-either (escape b) (escaped bytes) (ends-escape b (is_plain b) refl) (ends-escaped bytes)

-- ---- numbers

abbrev AreDigits : List ℕ → Type 0
AreDigits ds = (k : ℕ) → k < length ds → (48 ≤ get_or ds k 0) × (get_or ds k 0 ≤ 57)

digits-tail : (d : ℕ) (ds : List ℕ) → AreDigits (d ∷ ds) → AreDigits ds
digits-tail d ds h = λ k lt. h (suc k) (omega arith)

digits-visible : (ds : List ℕ) → AreDigits ds → is_visible ds ≡ true
digits-visible [] h = refl
digits-visible (d ∷ ds) h =
    let here = h 0 (omega arith) in
    both (nat_le 33 d) (is_visible ds) (le-leb 33 d (omega (arith, here.0))) (digits-visible ds (digits-tail d ds h))

digits-end : (ds : List ℕ) → AreDigits ds → ends_in_backslash ds ≡ false
digits-end [] h = refl
digits-end (d ∷ []) h = by (d == 92) refl
  where
    by : (t : Bool) → (d == 92) ≡ t → t ≡ false
    by true e = (let here = h 0 (omega arith) in absurd (omega (arith, here.1, eqb-true d 92 e)))
    by false e = refl
digits-end (d ∷ c ∷ ds) h = digits-end (c ∷ ds) (digits-tail d (c ∷ ds) h)

decimal-digits : (n : ℕ) → n < 2 ^ 64 → AreDigits (decimal n)
decimal-digits n small = λ k lt. digit_at (decimal n) k (decimal_is_IsNumeral n small).0.1 lt

pub decimal-visible : (n : ℕ) → n < 2 ^ 64 → is_visible (decimal n) ≡ true
decimal-visible n small = digits-visible (decimal n) (decimal-digits n small)

pub decimal-end : (n : ℕ) → n < 2 ^ 64 → ends_in_backslash (decimal n) ≡ false
decimal-end n small = digits-end (decimal n) (decimal-digits n small)

pub decimal-short : (n : ℕ) → n < 2 ^ 64 → length (decimal n) ≤ 20
decimal-short n small = length-decimal-le 20 n (omega arith) (omega arith) small

-- ---- words

not_white : (b : ℕ) → nat_le 33 b ≡ true → is_white b ≡ false
not_white b h = by (b == 32) (b == 9) refl refl
  where
    by : (x y : Bool) → (b == 32) ≡ x → (b == 9) ≡ y → (x || y) ≡ false
    by true y e f = absurd (omega (arith, leb-true 33 b h, eqb-true b 32 e))
    by false true e f = absurd (omega (arith, leb-true 33 b h, eqb-true b 9 f))
    by false false e f = refl

black : (word : List ℕ) → is_visible word ≡ true → All (λ b. is_white b ≡ false) word
black [] h = All-nil (λ (b : ℕ). is_white b ≡ false)
black (b ∷ word) h =
    let parts = and_parts (nat_le 33 b) (is_visible word) h in
    All-cons (λ (b : ℕ). is_white b ≡ false) b word (not_white b parts.0) (black word parts.1)

-- four words
pub four-words : (a : ℕ) (ar : List ℕ) (b : ℕ) (br : List ℕ) (c : ℕ) (cr : List ℕ) (d : ℕ) (dr : List ℕ)
    → is_visible (a ∷ ar) ≡ true → is_visible (b ∷ br) ≡ true → is_visible (c ∷ cr) ≡ true → is_visible (d ∷ dr) ≡ true
    → words (spaced (a ∷ ar) (spaced (b ∷ br) (spaced (c ∷ cr) (d ∷ dr)))) ≡ (a ∷ ar) ∷ (b ∷ br) ∷ (c ∷ cr) ∷ (d ∷ dr) ∷ []
unfolding words
four-words a ar b br c cr d dr va vb vc vd =
    ap (filter is_filled) (
    slice_split_at is_white (a ∷ ar) 32 (spaced (b ∷ br) (spaced (c ∷ cr) (d ∷ dr))) (black (a ∷ ar) va) refl
    ∙ ap (λ ps. (a ∷ ar) ∷ ps) (slice_split_at is_white (b ∷ br) 32 (spaced (c ∷ cr) (d ∷ dr)) (black (b ∷ br) vb) refl)
    ∙ ap (λ ps. (a ∷ ar) ∷ (b ∷ br) ∷ ps) (slice_split_at is_white (c ∷ cr) 32 (d ∷ dr) (black (c ∷ cr) vc) refl)
    ∙ ap (λ ps. (a ∷ ar) ∷ (b ∷ br) ∷ (c ∷ cr) ∷ ps) (slice_split_none is_white (d ∷ dr) (black (d ∷ dr) vd)))
