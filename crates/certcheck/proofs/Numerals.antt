-- Reading digits one after another.
use Rattle.std.proofs.Common.{◌≡◌, ℕ, ◌+◌, ◌-◌, ◌*◌, ◌<◌, ◌≤◌, ◌^◌, true, false, leb, List, length, get_or, take, drop, map, Some, None, sym, ap, ◌∙◌, arith, rules, tests}
use Rattle.std.specs.Char.{digit_value}
use Rattle.std.specs.Str.{bytes_eq}
use Rattle.std.specs.Str.Parse.{digits_value}
use Rattle.std.proofs.lemmas.Fmt.{decimal_is_IsNumeral}
use Rattle.std.proofs.lemmas.Str.Parse.{digit_at}
use Rattle.std.proofs.lemmas.Int.Digits.{digits_value_more, digits_value_is, number_after_append, number_after_ge}
use Rattle.std.proofs.lemmas.List.{take-append-drop, map-append, take_all}
use Rattle.std.proofs.lemmas.Slice.Eq.{bytes_eq-Decides}
use Rattle.std.proofs.lemmas.Bool.{and_parts, and_from, cond-true, cond-false, false_from_ne_true, false≢true, leb-true, le-leb}
use Rattle.std.specs.Fmt.{decimal}
use Rattle.std.specs.Int.Digits.{number_from_digits, number_from_digits_after}
use Rattle.certcheck.specs.Reading.{spelled_number}

digit_is : (c : ℕ) → 48 ≤ c → c ≤ 57 → digit_value c ≡ c - 48
digit_is c low high = search (rules, tests)

pub value_more : (text : List ℕ) (i : ℕ) → i < length text → 48 ≤ get_or text i 0 → get_or text i 0 ≤ 57 → digits_value 10 (take (i + 1) text) ≡ digits_value 10 (take i text) * 10 + (get_or text i 0 - 48)
value_more text i l low high = digits_value_more 10 text i l ∙ ap (λ d. digits_value 10 (take i text) * 10 + d) (digit_is (get_or text i 0) low high)

-- the value of a front is no more than that of the whole
pub value_front : (text : List ℕ) (k : ℕ) → digits_value 10 (take k text) ≤ digits_value 10 text
value_front text k =
    let front = map digit_value (take k text) in
    let back = map digit_value (drop k text) in
    let whole : digits_value 10 text ≡ number_from_digits_after 10 (number_from_digits_after 10 0 front) back = digits_value_is 10 text ∙ ap (number_from_digits 10) (ap (map digit_value) (sym (take-append-drop k text)) ∙ map-append digit_value (take k text) (drop k text)) ∙ number_after_append 10 0 front back in
    let more = number_after_ge 10 (number_from_digits_after 10 0 front) back (omega arith) in
    omega (arith, whole, more, digits_value_is 10 (take k text))

-- the spelled_number of a text that is none
pub no_numeral : (most : ℕ) (text : List ℕ) → (digits_value 10 text ≤ most → decimal (digits_value 10 text) ≡ text → ⊥) → None ≡ spelled_number most text
unfolding spelled_number
no_numeral most text none = sym (cond-false _ (Some (digits_value 10 text)) None (false_from_ne_true _ (λ e.
    let both = and_parts (leb (digits_value 10 text) most) (bytes_eq (decimal (digits_value 10 text)) text) e in
    none (leb-true _ _ both.0) ((bytes_eq-Decides _ _).0 both.1))))

-- a byte that is no digit
pub not_digits : (most : ℕ) (text : List ℕ) (i : ℕ) → most < 2 ^ 64 → i < length text → (48 ≤ get_or text i 0 → get_or text i 0 ≤ 57 → ⊥) → None ≡ spelled_number most text
not_digits most text i small l other = no_numeral most text (λ less same.
    let digits = (decimal_is_IsNumeral (digits_value 10 text) (omega arith)).0 in
    let at = digit_at (decimal (digits_value 10 text)) i digits.1 (omega (arith, ap length same, l)) in
    let here = ap (λ (t : List ℕ). get_or t i 0) same in
    other (omega (arith, here, at.0)) (omega (arith, here, at.1)))

-- a front whose value is too large
pub too_large : (most : ℕ) (text : List ℕ) (i : ℕ) → most < 2 ^ 64 → 2 ^ 64 ≤ digits_value 10 (take i text) → None ≡ spelled_number most text
too_large most text i small large = no_numeral most text (λ less same. let front = value_front text i in absurd (omega (arith, front, less, large, small)))

pub value_all : (text : List ℕ) (i v : ℕ) → length text ≤ i → v ≡ digits_value 10 (take i text) → v ≡ digits_value 10 text
value_all text i v l h = h ∙ ap (digits_value 10) (take_all i text l)

-- the whole value, and what it is written as
pub numeral_yes : (most : ℕ) (text : List ℕ) (v : ℕ) (written : List ℕ) → v ≡ digits_value 10 text → v ≤ most → written ≡ decimal v → bytes_eq written text ≡ true → Some v ≡ spelled_number most text
unfolding spelled_number
numeral_yes most text v written is small e same =
    let le : leb (digits_value 10 text) most ≡ true = le-leb _ _ (omega (arith, is, small)) in
    let eq : bytes_eq (decimal (digits_value 10 text)) text ≡ true = ap (λ n. bytes_eq (decimal n) text) (sym is) ∙ ap (λ (w : List ℕ). bytes_eq w text) (sym e) ∙ same in
    ap (λ (n : ℕ). Some n) is ∙ sym (cond-true _ (Some (digits_value 10 text)) None (and_from _ _ le eq))

pub numeral_above : (most : ℕ) (text : List ℕ) (v : ℕ) → v ≡ digits_value 10 text → most < v → None ≡ spelled_number most text
numeral_above most text v is large = no_numeral most text (λ less same. absurd (omega (arith, is, large, less)))

pub numeral_other : (most : ℕ) (text : List ℕ) (v : ℕ) (written : List ℕ) → v ≡ digits_value 10 text → written ≡ decimal v → bytes_eq written text ≡ false → None ≡ spelled_number most text
numeral_other most text v written is e differ = no_numeral most text (λ less same. false≢true (sym differ ∙ (bytes_eq-Decides written text).1 (e ∙ ap decimal is ∙ same)))
