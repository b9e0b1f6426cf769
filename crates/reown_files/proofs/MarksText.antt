-- Marks that are written, and read.
use Rattle.std.proofs.Common.{◌≡◌, ◌<◌, ◌≤◌, ◌+◌, ◌-◌, ◌/◌, ◌%◌, ◌==◌, ◌||◌, ◌^◌, ℕ, zero, suc}
use Rattle.std.proofs.Common.{Bool, true, false, cond, nat_lt, List, [], ◌∷◌, ◌++◌, Some, None, All}
use Rattle.std.proofs.Common.{inl, inr, refl, sym, ◌∙◌, ap, subst, append_assoc, append-nil, arith}
use Rattle.std.proofs.Common.{decimal, replicate, length, drop}
use Rattle.std.specs.Prelude.{nat_eq}
use Rattle.std.specs.Char.{digit_value}
use Rattle.std.specs.Int.{w32, to_be_bytes, byte_at, bytes_high_first}
use Rattle.std.specs.List.{starts_with, list_all, list_any, slice_index}
use Rattle.std.specs.Str.{bytes_eq}
use Rattle.std.specs.Str.Parse.{AllDigits}
use Rattle.std.specs.Cmp.Lexicographic.{bytes_decides}
use Rattle.std.proofs.lemmas.Bool.{cases_Bool, true≢false}
use Rattle.std.proofs.lemmas.Bool.Decides.{nat_tests}
use Rattle.std.proofs.lemmas.Fmt.{decimal_injective, decimal_is_IsNumeral}
use Rattle.std.proofs.lemmas.List.Elements.{All-tail, All-append}
use Rattle.sha2.specs.Sha256.{sha256, digest_bytes, final_hash, initial_hash_256}
use Rattle.hosts_join.specs.Checks.{is_host_byte}
use Rattle.reown_plan.specs.declared.mark.PlanMark.{PlanMark}
use Rattle.reown_plan.specs.Mark.{mark_of, mark_eq, padded}
use Rattle.reown_plan.specs.PlanData.{PlanData}
use Rattle.reown_plan.specs.Spelling.{spelling, IsHostName}
use Rattle.reown_plan.proofs.Cuts.{cut_unique}
use Rattle.reown_plan.proofs.Marks.{marks_compare}
use Rattle.reown_files.specs.Laws.{IsMarkable}
use Rattle.reown_files.specs.MarkText.{hex_digit, hex_text, host_text, plan_text}
use Rattle.reown_files.specs.MarkText.{mark_head, mark_text, mark_read}
use Rattle.reown_files.proofs.Laws.{both}

-- ---- digits to the base 16

low_digit : (n : ℕ) → nat_lt n 10 ≡ true → hex_digit n ≡ 48 + n
low_digit n e = ap (λ b. cond b (48 + n) (87 + n)) e

high_digit : (n : ℕ) → nat_lt n 10 ≡ false → hex_digit n ≡ 87 + n
high_digit n e = ap (λ b. cond b (48 + n) (87 + n)) e

is_low : (n : ℕ) → nat_lt n 10 ≡ true → n < 10
is_low n e = grind (arith, nat_tests)

is_high : (n : ℕ) → nat_lt n 10 ≡ false → 10 ≤ n
is_high n e = grind (arith, nat_tests)

same_digit : (m n : ℕ) → hex_digit m ≡ hex_digit n → m ≡ n
same_digit m n e = elim (cases_Bool (nat_lt m 10)) [
  | inl a ↦ elim (cases_Bool (nat_lt n 10)) [
    | inl b ↦ omega (arith, e, low_digit m a, low_digit n b)
    | inr b ↦ omega (arith, e, low_digit m a, high_digit n b, is_low m a, is_high n b)
  ]
  | inr a ↦ elim (cases_Bool (nat_lt n 10)) [
    | inl b ↦ omega (arith, e, high_digit m a, low_digit n b, is_high m a, is_low n b)
    | inr b ↦ omega (arith, e, high_digit m a, high_digit n b)
  ]
]

digit_no_newline : (n : ℕ) → (hex_digit n == 10) ≡ false
digit_no_newline n = elim (cases_Bool (nat_lt n 10)) [
  | inl a ↦ let is = low_digit n a in grind (arith, nat_tests)
  | inr a ↦ let is = high_digit n a in grind (arith, nat_tests)
]

hex_no_newline : (bytes : List ℕ) → list_any (λ b. b == 10) (hex_text bytes) ≡ false
hex_no_newline [] = refl
hex_no_newline (b ∷ bytes) = λ i. digit_no_newline (b / 16) i || (digit_no_newline (b % 16) i || hex_no_newline bytes i)

-- ---- a digest

abbrev is_byte : ℕ → Type 0
is_byte b = b < 256

same_bytes : (xs ys : List ℕ) → All is_byte xs → All is_byte ys → hex_text xs ≡ hex_text ys → xs ≡ ys
same_bytes [] [] small less e = refl
same_bytes [] (y ∷ ys) small less e = absurd cc
same_bytes (x ∷ xs) [] small less e = absurd cc
same_bytes (x ∷ xs) (y ∷ ys) small less e =
    let high : x / 16 ≡ y / 16 = same_digit (x / 16) (y / 16) cc in
    let low : x % 16 ≡ y % 16 = same_digit (x % 16) (y % 16) cc in
    let first : x ≡ y = omega (arith, high, low) in
    let rest : hex_text xs ≡ hex_text ys = cc in
    let same = same_bytes xs ys (All-tail is_byte x xs small) (All-tail is_byte y ys less) rest in
    λ i. first i ∷ same i

no_bytes : All is_byte []
no_bytes k d below = absurd (omega arith)

one_more_byte : (b : ℕ) (bytes : List ℕ) → b < 256 → All is_byte bytes → All is_byte (b ∷ bytes)
one_more_byte b bytes small all zero d below = small
one_more_byte b bytes small all (suc k) d below = all k d (omega arith)

byte_is_small : (k n : ℕ) → byte_at k n < 256
byte_is_small zero n = omega arith
byte_is_small (suc k) n = omega arith

word_bytes : (k n : ℕ) → All is_byte (bytes_high_first k n)
word_bytes zero n = no_bytes
word_bytes (suc k) n = one_more_byte (byte_at k n) (bytes_high_first k n) (byte_is_small k n) (word_bytes k n)

words_bytes : (h : List ℕ) (n : ℕ) → All is_byte (digest_bytes h n)
unfolding digest_bytes
words_bytes h zero = no_bytes
words_bytes h (suc n) =
    All-append is_byte (digest_bytes h n) (to_be_bytes w32 (slice_index h n)) (words_bytes h n) (word_bytes 4 (slice_index h n))

digest_is_bytes : (text : List ℕ) → All is_byte (sha256 text)
unfolding sha256
digest_is_bytes text = words_bytes (final_hash initial_hash_256 text) 8

-- ---- the name of a host

no_other_byte : (c : ℕ) → is_host_byte c ≡ false → (b : ℕ) → is_host_byte b ≡ true → (b == c) ≡ false
no_other_byte c none b h = elim (cases_Bool (b == c)) [
  | inl is ↦ (let same : b ≡ c = grind (arith, nat_tests) in absurd (true≢false (sym h ∙ ap is_host_byte same ∙ none)))
  | inr other ↦ other
]

zeros_are_no_text : (n : ℕ) → host_text (replicate n 0) ≡ []
zeros_are_no_text zero = refl
zeros_are_no_text (suc n) = zeros_are_no_text n

name_back : (name : List ℕ) (n : ℕ) → list_all is_host_byte name ≡ true → host_text (name ++ replicate n 0) ≡ name
name_back [] n h = zeros_are_no_text n
name_back (b ∷ name) n h =
    let hs = both (is_host_byte b) (list_all is_host_byte name) h in
    ap (λ (t : Bool). cond t [] (b ∷ []) ++ host_text (name ++ replicate n 0)) (no_other_byte 0 refl b hs.0) ∙ ap (λ bs. b ∷ bs) (name_back name n hs.1)

name_has_no : (c : ℕ) → is_host_byte c ≡ false → (name : List ℕ) → list_all is_host_byte name ≡ true → list_any (λ b. b == c) name ≡ false
name_has_no c none [] h = refl
name_has_no c none (b ∷ name) h =
    let hs = both (is_host_byte b) (list_all is_host_byte name) h in λ i. no_other_byte c none b hs.0 i || name_has_no c none name hs.1 i

-- ---- a number

digit_is_no : (b : ℕ) → 10 ≤ digit_value b → (c : ℕ) → digit_value c < 10 → (c == b) ≡ false
digit_is_no b high c h = elim (cases_Bool (c == b)) [
  | inl is ↦ (let same : c ≡ b = grind (arith, nat_tests) in let low : digit_value b < 10 = subst (λ d. digit_value d < 10) same h in absurd (omega (arith, high, low)))
  | inr other ↦ other
]

digits_have_no : (b : ℕ) → 10 ≤ digit_value b → (ds : List ℕ) → AllDigits 10 ds → list_any (λ c. c == b) ds ≡ false
digits_have_no b high [] h = refl
digits_have_no b high (c ∷ cs) h = λ i. digit_is_no b high c h.0 i || digits_have_no b high cs h.1 i

number_has_no : (b : ℕ) → 10 ≤ digit_value b → (n : ℕ) → n < 2 ^ 64 → list_any (λ c. c == b) (decimal n) ≡ false
number_has_no b high n small = digits_have_no b high (decimal n) (decimal_is_IsNumeral n small).0.1

-- ---- what a plan is known by

abbrev parted : List ℕ → ℕ → List ℕ → List ℕ → List ℕ
parted name size digits rest = name ++ 32 ∷ (decimal size ++ 32 ∷ (digits ++ 10 ∷ rest))

parts_joined : (name : List ℕ) (size : ℕ) (digits rest : List ℕ) → (name ++ 32 ∷ decimal size ++ 32 ∷ digits ++ 10 ∷ []) ++ rest ≡ parted name size digits rest
parts_joined name size digits rest = simp append_assoc

module _ (name other : List ℕ) (size more : ℕ) (digits digits' rest rest' : List ℕ) where
  same_parts : list_any (λ b. b == 32) name ≡ false → list_any (λ b. b == 32) other ≡ false → size < 2 ^ 64 → more < 2 ^ 64
      → list_any (λ b. b == 10) digits ≡ false → list_any (λ b. b == 10) digits' ≡ false
      → parted name size digits rest ≡ parted other more digits' rest' → (name ≡ other) × (size ≡ more) × (digits ≡ digits')
  same_parts n o s m d d' e =
      let first = cut_unique 32 name (decimal size ++ 32 ∷ (digits ++ 10 ∷ rest)) other (decimal more ++ 32 ∷ (digits' ++ 10 ∷ rest')) n o e in
      let second = cut_unique 32 (decimal size) (digits ++ 10 ∷ rest) (decimal more) (digits' ++ 10 ∷ rest') (number_has_no 32 (omega arith) size s) (number_has_no 32 (omega arith) more m) first.1 in
      let third = cut_unique 10 digits rest digits' rest' d d' second.1 in
      (first.0, decimal_injective size more s m second.0, third.0)

host_bytes : (name : List ℕ) → IsHostName name → list_all is_host_byte name ≡ true
host_bytes name h = (both _ (list_all is_host_byte name) (both _ _ h).1).1

-- no two plans of different marks begin a text
module _ (a b : PlanData) (is : IsMarkable a) (is' : IsMarkable b) where
  pub same_plan : (rest rest' : List ℕ) → plan_text (mark_of a) ++ rest ≡ plan_text (mark_of b) ++ rest' → mark_of a ≡ mark_of b
  same_plan rest rest' e =
      let digits = hex_text (sha256 (spelling a)) in
      let digits' = hex_text (sha256 (spelling b)) in
      let name = name_back a.host (64 - length a.host) (host_bytes a.host is.host) in
      let name' = name_back b.host (64 - length b.host) (host_bytes b.host is'.host) in
      let whole = parts_joined (host_text (padded a.host)) (length (spelling a)) digits rest ∙ ap (λ (n : List ℕ). parted n (length (spelling a)) digits rest) name in
      let whole' = parts_joined (host_text (padded b.host)) (length (spelling b)) digits' rest' ∙ ap (λ (n : List ℕ). parted n (length (spelling b)) digits' rest') name' in
      let same = same_parts a.host b.host (length (spelling a)) (length (spelling b)) digits digits' rest rest'
      (name_has_no 32 refl a.host (host_bytes a.host is.host)) (name_has_no 32 refl b.host (host_bytes b.host is'.host)) is.short is'.short
      (hex_no_newline (sha256 (spelling a))) (hex_no_newline (sha256 (spelling b))) (sym whole ∙ e ∙ whole') in
      let digest = same_bytes (sha256 (spelling a)) (sha256 (spelling b)) (digest_is_bytes (spelling a)) (digest_is_bytes (spelling b)) same.2 in
      λ i. record { host = padded (same.0 i); length = same.1 i; digest = digest i }

-- no newline stands in what a plan is known by, but at its end
module _ (plan : PlanData) (is : IsMarkable plan) where
  pub host_in_line : list_any (λ b. b == 10) (host_text (mark_of plan).host) ≡ false
  host_in_line =
      ap (list_any (λ b. b == 10)) (name_back plan.host (64 - length plan.host) (host_bytes plan.host is.host)) ∙ name_has_no 10 refl plan.host (host_bytes plan.host is.host)

  pub length_in_line : list_any (λ b. b == 10) (decimal (mark_of plan).length) ≡ false
  length_in_line = number_has_no 10 (omega arith) (length (spelling plan)) is.short

  pub digest_in_line : list_any (λ b. b == 10) (hex_text (mark_of plan).digest) ≡ false
  digest_in_line = hex_no_newline (mark_of plan).digest

-- ---- the mark

pub same_test : (a b : Bool) → (a ≡ true → b ≡ true) → (b ≡ true → a ≡ true) → a ≡ b
same_test true b there back = sym (there refl)
same_test false true there back = back refl
same_test false false there back = refl

mark_begins : (mark : PlanMark) → starts_with nat_eq (mark_text mark) mark_head ≡ true
mark_begins mark = refl

read_as : (mark : PlanMark) (text : List ℕ) (is : Bool) → starts_with nat_eq text mark_head ≡ true → bytes_eq text (mark_text mark) ≡ is → mark_read mark text ≡ Some is
read_as mark text is begins e = ap (λ (t : Bool). cond t (Some (bytes_eq text (mark_text mark))) None) begins ∙ ap (λ (t : Bool). Some t) e

pub marks_back : (plan other : PlanData) → IsMarkable plan → IsMarkable other → mark_read (mark_of other) (mark_text (mark_of plan)) ≡ Some (mark_eq (mark_of plan) (mark_of other))
marks_back plan other is is' =
    let p = mark_of plan in
    let o = mark_of other in
    let compared = marks_compare p o in
    let decided = bytes_decides (mark_text p) (mark_text o) in
    read_as o (mark_text p) (mark_eq p o) (mark_begins p)
    (same_test (bytes_eq (mark_text p) (mark_text o)) (mark_eq p o)
    (λ e. compared.1 (same_plan plan other is is' [] [] (append-nil (plan_text p) ∙ ap (drop 16) (decided.0 e) ∙ sym (append-nil (plan_text o)))))
    (λ e. decided.1 (ap mark_text (compared.0 e))))
