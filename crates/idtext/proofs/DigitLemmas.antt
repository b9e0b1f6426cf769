-- What is read of a text, one digit after the other.
use Rattle.std.proofs.Common.{◌≡◌, ◌≢◌, ◌⊎◌, ℕ, ◌+◌, ◌-◌, ◌*◌, ◌<◌, ◌≤◌, Bool, true, false, cond, List, [], ◌∷◌, ◌++◌, drop, get_or, refl, sym, ap, ◌∙◌, subst, arith, inl, inr, Option, Some, None, ltb, leb, ◌&&◌, ◌||◌, ◌==◌}
use Rattle.std.specs.Prelude.{codes}
use Rattle.std.specs.Char.{digit_value}
use Rattle.std.specs.List.{list_all}
use Rattle.std.specs.Str.Parse.{digits_value}
use Rattle.std.proofs.Math.Nat.{mul-le-mul_left}
use Rattle.std.proofs.lemmas.Bool.{agree_below_at, and_from, and_left, and_parts, and_right, cases_Bool, cases_lt, cond_both, eqb-true, le-leb, le-ltb, leb-false, lt-leb, lt-ltb, ne_eqb, or_cases, or_from}
use Rattle.std.proofs.lemmas.Int.Digits.{digits_value_push}
use Rattle.std.proofs.lemmas.List.Folds.{list_all-append}
use Rattle.std.proofs.lemmas.Option.{cond_some, get_or_from_slice_get, slice_get-get_or, slice_get_within}
use Rattle.idtext.specs.Numbers.{c_number_of, greatest_id, numeral}
use Rattle.idtext.specs.NumberLaws.{CNumbersAreTheirDigits, DecimalsAreTheirDigits, IsDigit, ReadsDigits}
use Rattle.idtext.proofs.NumberLemmas.{numeral-empty}

-- ---- digits

abbrev small_letters : List ℕ
small_letters = codes "0123456789abcdef"

abbrev capital_letters : List ℕ
capital_letters = codes "0123456789ABCDEF"

-- the digit d of each table has the value d
abbrev has_value : ℕ → Bool
has_value d = (digit_value (get_or small_letters d 0) == d) && (digit_value (get_or capital_letters d 0) == d)

value-in-table : (d : ℕ) → d < 16 → (digit_value (get_or small_letters d 0) ≡ d) × (digit_value (get_or capital_letters d 0) ≡ d)
value-in-table d small =
    let both = and_parts (digit_value (get_or small_letters d 0) == d) (digit_value (get_or capital_letters d 0) == d) (agree_below_at has_value (λ k. true) 16 d refl small) in
    (eqb-true _ d both.0, eqb-true _ d both.1)

digit-value : (base d byte : ℕ) → IsDigit base d byte → digit_value byte ≡ d
digit-value base d byte (below, inl is) =
    ap digit_value (sym (get_or_from_slice_get small_letters d byte 0 is)) ∙ (value-in-table d (slice_get_within small_letters d byte is)).0
digit-value base d byte (below, inr is) =
    ap digit_value (sym (get_or_from_slice_get capital_letters d byte 0 is)) ∙ (value-in-table d (slice_get_within capital_letters d byte is)).1

-- a byte whose value is below 16 stands at its value in one of the tables
abbrev stands_there : ℕ → Bool
stands_there b = cond (ltb (digit_value b) 16) ((get_or small_letters (digit_value b) 0 == b) || (get_or capital_letters (digit_value b) 0 == b)) true

-- past `f` no byte has so small a value
great-value : (b : ℕ) → 103 ≤ b → 16 ≤ digit_value b
great-value b h =
    rw (le-ltb b 48 (omega arith), le-ltb b 58 (omega arith), le-ltb b 65 (omega arith), le-ltb b 91 (omega arith), le-ltb b 97 (omega arith))
    (cond_both (ltb b 123) (b - 87) 36 (λ v. 16 ≤ v) (λ e. omega arith) (λ e. omega arith))

letter-value : (b : ℕ) → digit_value b < 16 → b < 103
letter-value b small = elim (cases_lt b 103) [
  | inl below ↦ below
  | inr above ↦ let great = great-value b above in absurd (omega (arith, small, great))
]

in-table : (b : ℕ) → digit_value b < 16 → (get_or small_letters (digit_value b) 0 ≡ b) ⊎ (get_or capital_letters (digit_value b) 0 ≡ b)
in-table b small =
    let there = agree_below_at stands_there (λ k. true) 103 b refl (letter-value b small) in
    let either = ap (λ t. cond t ((get_or small_letters (digit_value b) 0 == b) || (get_or capital_letters (digit_value b) 0 == b)) true) (sym (lt-ltb (digit_value b) 16 small)) ∙ there in
    elim (or_cases (get_or small_letters (digit_value b) 0 == b) (get_or capital_letters (digit_value b) 0 == b) either) [
      | inl is ↦ inl (eqb-true _ b is)
      | inr is ↦ inr (eqb-true _ b is)
    ]

is-digit : (base b : ℕ) → base ≤ 16 → digit_value b < base → IsDigit base (digit_value b) b
is-digit base b most below = elim (in-table b (omega arith)) [
  | inl is ↦ (below, inl (slice_get-get_or small_letters (digit_value b) 0 (omega arith) ∙ ap Some is))
  | inr is ↦ (below, inr (slice_get-get_or capital_letters (digit_value b) 0 (omega arith) ∙ ap Some is))
]

no-digit : (base b : ℕ) → base ≤ 16 → ¬ ((d : ℕ) × IsDigit base d b) → base ≤ digit_value b
no-digit base b most unlike = elim (cases_lt (digit_value b) base) [
  | inl below ↦ absurd (unlike (digit_value b, is-digit base b most below))
  | inr above ↦ above
]

-- ---- a byte more

abbrev are_digits : ℕ → List ℕ → Bool
are_digits base text = list_all (λ c. ltb (digit_value c) base) text

-- the number that a text has by a test of its digits
abbrev told : Bool → ℕ → Option ℕ
told good n = cond (good && leb n greatest_id) (Some n) None

numeral-told : (base : ℕ) (text : List ℕ) → text ≢ [] → numeral base text ≡ told (are_digits base text) (digits_value base text)
unfolding numeral
numeral-told base [] some = absurd (some refl)
numeral-told base (c ∷ cs) some = refl

pushed-some : (text : List ℕ) (b : ℕ) → text ++ b ∷ [] ≢ []
pushed-some [] b e = absurd (cc)
pushed-some (c ∷ cs) b e = absurd (cc)

digits-push : (base : ℕ) (text : List ℕ) (b : ℕ) → are_digits base (text ++ b ∷ []) ≡ (are_digits base text && ltb (digit_value b) base)
digits-push base text b = list_all-append (λ c. ltb (digit_value c) base) text (b ∷ []) ∙ ap (λ t. are_digits base text && t) (one (ltb (digit_value b) base))
  where
    one : (t : Bool) → (t && true) ≡ t
    one true = refl
    one false = refl

numeral-push : (base : ℕ) (text : List ℕ) (b : ℕ) → numeral base (text ++ b ∷ []) ≡ told (are_digits base text && ltb (digit_value b) base) (digits_value base text * base + digit_value b)
numeral-push base text b =
    numeral-told base (text ++ b ∷ []) (pushed-some text b)
    ∙ ap (λ t. told t (digits_value base (text ++ b ∷ []))) (digits-push base text b)
    ∙ ap (told (are_digits base text && ltb (digit_value b) base)) (digits_value_push base text b)

told-some : (good : Bool) (n : ℕ) → good ≡ true → n ≤ greatest_id → told good n ≡ Some n
told-some good n is small = rw (is, le-leb n greatest_id small) refl

told-great : (good : Bool) (n : ℕ) → greatest_id < n → told good n ≡ None
told-great true n great = rw (lt-leb n greatest_id great) refl
told-great false n great = refl

told-bad : (good : Bool) (n : ℕ) → good ≡ false → told good n ≡ None
told-bad good n is = rw is refl

-- what a number that was read says of its text
record IsRead (base : ℕ) (text : List ℕ) (n : ℕ) : Type 0 where
  pub good : are_digits base text ≡ true
  pub value : digits_value base text ≡ n

told-parts : (good : Bool) (v n : ℕ) → told good v ≡ Some n → (good ≡ true) × (v ≡ n)
told-parts good v n e =
    let parts = cond_some (good && leb v greatest_id) v n e in
    ((and_parts good (leb v greatest_id) parts.0).0, parts.1)

is-read : (base : ℕ) (text : List ℕ) (n : ℕ) → numeral base text ≡ Some n → IsRead base text n
unfolding numeral
is-read base [] n e = absurd (cc)
is-read base (c ∷ cs) n e =
    let parts = told-parts (are_digits base (c ∷ cs)) (digits_value base (c ∷ cs)) n e in
    record { good = parts.0; value = parts.1 }

-- what it says of a text that none was read
told-none : (good : Bool) (v : ℕ) → told good v ≡ None → (good ≡ false) ⊎ (greatest_id < v)
told-none true v e = elim (cases_Bool (leb v greatest_id)) [
  | inl small ↦ let e' = rw small at e in absurd (cc)
  | inr great ↦ inr (leb-false v greatest_id great)
]
told-none false v e = inl refl

grows : (base v d : ℕ) → 1 ≤ base → greatest_id < v → greatest_id < v * base + d
grows base v d some great = omega (arith, mul-le-mul_left {m = 1} {n = base} v some)

longer-none : (base : ℕ) (text : List ℕ) (b : ℕ) → 1 ≤ base → text ≢ [] → numeral base text ≡ None → numeral base (text ++ b ∷ []) ≡ None
longer-none base text b least some e = elim (told-none (are_digits base text) (digits_value base text) (sym (numeral-told base text some) ∙ e)) [
  | inl bad ↦ numeral-push base text b ∙ told-bad _ (digits_value base text * base + digit_value b) (and_left (are_digits base text) (ltb (digit_value b) base) bad)
  | inr great ↦ numeral-push base text b ∙ told-great _ (digits_value base text * base + digit_value b) (grows base (digits_value base text) (digit_value b) least great)
]

module _ (base : ℕ) (least : 1 ≤ base) (most : base ≤ 16) where
  good-digit : (d byte : ℕ) → IsDigit base d byte → ltb (digit_value byte) base ≡ true
  good-digit d byte is = lt-ltb (digit_value byte) base (subst (λ k. k < base) (sym (digit-value base d byte is)) is.0)

  pushed-value : (text : List ℕ) (n d byte : ℕ) → IsRead base text n → IsDigit base d byte → digits_value base text * base + digit_value byte ≡ n * base + d
  pushed-value text n d byte read is = rw (read.value, digit-value base d byte is) refl

  pushed : (text : List ℕ) (n d byte : ℕ) → IsRead base text n → IsDigit base d byte → numeral base (text ++ byte ∷ []) ≡ told true (n * base + d)
  pushed text n d byte read is =
      numeral-push base text byte
      ∙ ap (λ v. told (are_digits base text && ltb (digit_value byte) base) v) (pushed-value text n d byte read is)
      ∙ ap (λ t. told t (n * base + d)) (and_from (are_digits base text) (ltb (digit_value byte) base) read.good (good-digit d byte is))

  pub reads-digits : ReadsDigits base (numeral base)
  reads-digits = record {
    nothing = numeral-empty base [] refl;
    one = pushed-one;
    more = λ text n d byte read is small. pushed text n d byte (is-read base text n read) is ∙ told-some true (n * base + d) refl small;
    great = λ text n d byte read is great. pushed text n d byte (is-read base text n read) is ∙ told-great true (n * base + d) great;
    longer = λ text byte some none. longer-none base text byte least some none;
    others = λ text byte unlike.
        numeral-push base text byte
        ∙ told-bad _ (digits_value base text * base + digit_value byte) (and_right (are_digits base text) (ltb (digit_value byte) base) (le-ltb (digit_value byte) base (no-digit base byte most unlike)));
  }
    where
      pushed-one : (d byte : ℕ) → IsDigit base d byte → numeral base (byte ∷ []) ≡ Some d
      pushed-one d byte is =
          numeral-push base [] byte
          ∙ ap (told (ltb (digit_value byte) base)) (omega (arith, digit-value base d byte is))
          ∙ told-some (ltb (digit_value byte) base) d (good-digit d byte is) (let below = is.0 in omega arith)

pub decimal-digits : DecimalsAreTheirDigits
decimal-digits = reads-digits 10 (omega arith) (omega arith)

hexadecimal-digits : (x : ℕ) → (x ≡ 120) ⊎ (x ≡ 88) → ReadsDigits 16 (λ digits. c_number_of (48 ∷ x ∷ digits))
hexadecimal-digits x (inl e) = subst (λ (y : ℕ). ReadsDigits 16 (λ digits. c_number_of (48 ∷ y ∷ digits))) (sym e) (reads-digits 16 (omega arith) (omega arith))
hexadecimal-digits x (inr e) = subst (λ (y : ℕ). ReadsDigits 16 (λ digits. c_number_of (48 ∷ y ∷ digits))) (sym e) (reads-digits 16 (omega arith) (omega arith))

pub c_number-digits : CNumbersAreTheirDigits
c_number-digits = record {
  decimal = λ text other.
      ap (λ t. cond (t && ((get_or text 1 0 == 120) || (get_or text 1 0 == 88))) (numeral 16 (drop 2 text)) (cond t (numeral 8 text) (numeral 10 text))) (ne_eqb (get_or text 0 0) 48 other);
  hexadecimal = hexadecimal-digits;
  octal_of = numeral 8;
  octal_digits = reads-digits 8 (omega arith) (omega arith);
  octal = λ digits no_small no_capital.
      ap (λ t. cond t (numeral 16 (drop 2 (48 ∷ digits))) (numeral 8 (48 ∷ digits)))
      (or_from (get_or digits 0 0 == 120) (get_or digits 0 0 == 88) (ne_eqb (get_or digits 0 0) 120 no_small) (ne_eqb (get_or digits 0 0) 88 no_capital));
}
