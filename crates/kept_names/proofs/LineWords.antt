-- The words that the line of a finding has.
use Rattle.std.proofs.Common.{◌≡◌, ℕ, ◌+◌, ◌/◌, ◌%◌, ◌<◌, ◌≤◌, ◌==◌, ◌&&◌, not, Bool, true, false, cond, List, [], ◌∷◌, ◌++◌, length, decimal, refl, ap, ◌∙◌, append-nil, arith}
use Rattle.std.specs.Prelude.{filter, nat_le}
use Rattle.std.specs.Char.{digit_value}
use Rattle.std.specs.List.{AllByRecursion, list_all, slice_split}
use Rattle.std.specs.Str.Parse.{AllDigits}
use Rattle.std.proofs.lemmas.Bool.{and_parts, leb-true, ne_eqb, not-true}
use Rattle.std.proofs.lemmas.Fmt.{decimal_is_IsNumeral, decimal_nonempty}
use Rattle.std.proofs.lemmas.List.Elements.{All-from_recursion}
use Rattle.std.proofs.lemmas.List.Splits.{slice_split_at, slice_split_none}
use Rattle.idtext.specs.Escapes.{escape, escaped, is_plain}
use Rattle.idtext.specs.Numbers.{greatest_id}
use Rattle.idtext.specs.Words.{is_filled, is_white, words}
use Rattle.idtext.proofs.EscapeLemmas.{escape-other, escape-plain}

-- none of the bytes is the one
abbrev pub Lacks : ℕ → List ℕ → Type 0
Lacks b bytes = AllByRecursion (λ c. (c == b) ≡ false) bytes

pub lacks-append : (b : ℕ) (xs ys : List ℕ) → Lacks b xs → Lacks b ys → Lacks b (xs ++ ys)
lacks-append b [] ys p q = q
lacks-append b (x ∷ xs) ys p q = (p.0, lacks-append b xs ys p.1 q)

-- a word of a line: not empty, and without a byte that ends it
pub record IsWord (word : List ℕ) : Type 0 where
  pub some : 0 < length word
  pub no_space : Lacks 32 word
  pub no_tab : Lacks 9 word
  pub no_end : Lacks 10 word

-- a space and a word, and so on
abbrev pub spaced : List (List ℕ) → List ℕ
spaced [] = []
spaced (word ∷ words) = 32 ∷ word ++ spaced words

black : (word : List ℕ) → Lacks 32 word → Lacks 9 word → AllByRecursion (λ b. is_white b ≡ false) word
black [] no_space no_tab = tt
black (b ∷ bs) no_space no_tab = (rw (no_space.0, no_tab.0) refl, black bs no_space.1 no_tab.1)

filled : (word : List ℕ) → 0 < length word → is_filled word ≡ true
filled [] some = absurd (omega (arith, some))
filled (b ∷ bs) some = refl

pub words_spaced : (word : List ℕ) (others : List (List ℕ)) → IsWord word → AllByRecursion IsWord others → words (word ++ spaced others) ≡ word ∷ others
unfolding words
words_spaced word [] is all =
    ap (λ text. filter is_filled (slice_split is_white text)) (append-nil word)
    ∙ ap (filter is_filled) (slice_split_none is_white word (All-from_recursion (λ b. is_white b ≡ false) word (black word is.no_space is.no_tab)))
    ∙ ap (λ t. cond t (word ∷ []) []) (filled word is.some)
words_spaced word (next ∷ others) is all =
    let rest : List (List ℕ) = filter is_filled (slice_split is_white (next ++ spaced others)) in
    ap (filter is_filled) (slice_split_at is_white word 32 (next ++ spaced others) (All-from_recursion (λ b. is_white b ≡ false) word (black word is.no_space is.no_tab)) refl)
    ∙ ap (λ t. cond t (word ∷ rest) rest) (filled word is.some)
    ∙ ap (λ ws. word ∷ ws) (words_spaced next others all.0 all.1)

pub spaced_lacks : (words : List (List ℕ)) → AllByRecursion IsWord words → Lacks 10 (spaced words)
spaced_lacks [] all = tt
spaced_lacks (word ∷ words) all = (refl, lacks-append 10 word (spaced words) all.0.no_end (spaced_lacks words all.1))

-- ---- numbers

digits-lack : (b : ℕ) → 10 ≤ digit_value b → (ds : List ℕ) → AllDigits 10 ds → Lacks b ds
digits-lack b other [] all = tt
digits-lack b other (c ∷ cs) all = (ne_eqb c b (λ e. let low : digit_value b < 10 = rw (← e) all.0 in omega (arith, low, other)), digits-lack b other cs all.1)

decimal-lacks : (b v : ℕ) → 10 ≤ digit_value b → v ≤ greatest_id → Lacks b (decimal v)
decimal-lacks b v other small = digits-lack b other (decimal v) (decimal_is_IsNumeral v (omega (arith, small))).0.1

pub number_word : (n : ℕ) → n ≤ greatest_id → IsWord (decimal n)
number_word n small = record {
  some = decimal_nonempty n (omega (arith, small));
  no_space = decimal-lacks 32 n (omega arith) small;
  no_tab = decimal-lacks 9 n (omega arith) small;
  no_end = decimal-lacks 10 n (omega arith) small;
}

-- ---- escaped texts

escape_lacks : (c b : ℕ) (plain : Bool) → c < 33 → is_plain b ≡ plain → Lacks c (escape b)
escape_lacks c b true low is =
    let large : 33 ≤ b = leb-true 33 b (and_parts (nat_le 33 b) (nat_le b 126) (and_parts (nat_le 33 b && nat_le b 126) (not (b == 92)) is).0).0 in
    rw (← escape-plain b is) (ne_eqb b c (λ e. omega (arith, e, large, low)), tt)
escape_lacks c b false low is =
    rw (escape-other b is) (
      ne_eqb 92 c (λ e. omega (arith, e, low)),
      (ne_eqb (48 + b / 64) c (λ e. omega (arith, e, low)), (ne_eqb (48 + b / 8 % 8) c (λ e. omega (arith, e, low)), (ne_eqb (48 + b % 8) c (λ e. omega (arith, e, low)), tt))),
    )

escaped_lacks : (c : ℕ) (bytes : List ℕ) → c < 33 → Lacks c (escaped bytes)
escaped_lacks c [] low = tt
escaped_lacks c (b ∷ bytes) low = lacks-append c (escape b) (escaped bytes) (escape_lacks c b (is_plain b) low refl) (escaped_lacks c bytes low)

escape_some : (b : ℕ) (rest : List ℕ) (plain : Bool) → is_plain b ≡ plain → 0 < length (escape b ++ rest)
escape_some b rest true is = rw (← escape-plain b is) (omega arith)
escape_some b rest false is = rw (escape-other b is) (omega arith)

pub escaped_word : (bytes : List ℕ) → 0 < length bytes → IsWord (escaped bytes)
escaped_word [] some = absurd (omega (arith, some))
escaped_word (b ∷ bytes) some = record {
  some = escape_some b (escaped bytes) (is_plain b) refl;
  no_space = escaped_lacks 32 (b ∷ bytes) (omega arith);
  no_tab = escaped_lacks 9 (b ∷ bytes) (omega arith);
  no_end = escaped_lacks 10 (b ∷ bytes) (omega arith);
}

-- ---- words that are given

lacks-of : (b : ℕ) (word : List ℕ) → list_all (λ c. not (c == b)) word ≡ true → Lacks b word
lacks-of b [] is = tt
lacks-of b (c ∷ cs) is =
    let parts = and_parts (not (c == b)) (list_all (λ d. not (d == b)) cs) is in
    (not-true (c == b) parts.0, lacks-of b cs parts.1)

pub given_word : (b : ℕ) (word : List ℕ) → list_all (λ c. not (c == 32)) (b ∷ word) ≡ true → list_all (λ c. not (c == 9)) (b ∷ word) ≡ true → list_all (λ c. not (c == 10)) (b ∷ word) ≡ true → IsWord (b ∷ word)
given_word b word no_space no_tab no_end = record {
  some = omega arith;
  no_space = lacks-of 32 (b ∷ word) no_space;
  no_tab = lacks-of 9 (b ∷ word) no_tab;
  no_end = lacks-of 10 (b ∷ word) no_end;
}
