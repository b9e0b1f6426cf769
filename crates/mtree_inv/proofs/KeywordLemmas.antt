-- White space in front of keywords, and the value that a keyword gives to a key.
use Rattle.std.proofs.Common.{◌≡◌, ℕ, zero, suc, Bool, true, false, cond, not, ◌&&◌, ◌+◌, ◌<◌, List, [], ◌∷◌, length, take, drop, get_or, refl, sym, ap, ◌∙◌, true≢false, arith}
use Rattle.std.proofs.lemmas.Bool.{eqb-true, or_parts, and_parts, not-true}
use Rattle.std.specs.Prelude.{Option, Some, None, ◌==◌}
use Rattle.std.specs.List.{list_any, list_all, position_or_len}
use Rattle.std.specs.Str.{bytes_eq}
use Rattle.idtext.specs.Words.{is_white, words}
use Rattle.idtext.proofs.WordLemmas.{words-skip}
use Rattle.mtree_inv.specs.Keywords.{is_equals_sign, given_by}
use Rattle.mtree_inv.specs.Views.{begin_apart, is_end_of_key}

-- a line that begins with white space
pub words-behind : (white line : List ℕ) → list_all is_white white ≡ true → bytes_eq (take (length white) line) white ≡ true → words (drop (length white) line) ≡ words line
words-behind [] line all is = refl
words-behind (w ∷ white) [] all is = absurd (true≢false (sym is))
words-behind (w ∷ white) (b ∷ line) all is =
    let whites = and_parts (is_white w) (list_all is_white white) all in
    let same = and_parts (b == w) (bytes_eq (take (length white) line) white) is in
    words-behind white line whites.1 same.1 ∙ sym (words-skip 1 (b ∷ line) (omega arith) (λ k less. by k less (ap is_white (eqb-true b w same.0) ∙ whites.0)))
  where
    by : (k : ℕ) → k < 1 → is_white b ≡ true → is_white (get_or (b ∷ line) k 0) ≡ true
    by zero less is = is
    by (suc k) less is = absurd (omega arith)

-- ---- the value, byte by byte from the front on

abbrev given_at : List ℕ → List ℕ → Option (List ℕ)
given_at [] word = cond (is_end_of_key word) (Some (drop 1 word)) None
given_at (k ∷ key) [] = None
given_at (k ∷ key) (b ∷ word) = cond (b == k) (given_at key word) None

no_sign : (b k : ℕ) → is_equals_sign b ≡ true → is_equals_sign k ≡ false → (b == k) ≡ false
no_sign b k sign none = by (b == k) refl
  where
    by : (t : Bool) → (b == k) ≡ t → t ≡ false
    by true e = absurd (true≢false (sym sign ∙ ap is_equals_sign (eqb-true b k e) ∙ none))
    by false e = refl

-- what a word gives whose key has this length
abbrev given_with : ℕ → List ℕ → List ℕ → Option (List ℕ)
given_with len key word = cond (bytes_eq (take len word) key) (Some (drop (len + 1) word)) None

with_more : (len : ℕ) (key : List ℕ) (b : ℕ) (word : List ℕ) → given_with (1 + len) key (b ∷ word) ≡ cond (bytes_eq (b ∷ take len word) key) (Some (drop (len + 1) word)) None
with_more len key b word =
    let one : 1 + len ≡ suc len = omega arith in
    let two : suc len + 1 ≡ suc (len + 1) = omega arith in
    ap (λ (n : ℕ). given_with n key (b ∷ word)) one ∙ ap (λ (n : ℕ). cond (bytes_eq (b ∷ take len word) key) (Some (drop n (b ∷ word))) None) two

given_is : (key word : List ℕ) → list_any is_equals_sign key ≡ false → given_by key word ≡ given_at key word
given_is [] [] none = refl
given_is [] (b ∷ word) none = by (is_equals_sign b)
  where
    by : (t : Bool) → given_with (cond (not t) (1 + position_or_len is_equals_sign word) 0) [] (b ∷ word) ≡ cond t (Some word) None
    by true = refl
    by false = with_more (position_or_len is_equals_sign word) [] b word
given_is (k ∷ key) [] none = refl
given_is (k ∷ key) (b ∷ word) none =
    let both = or_parts (is_equals_sign k) (list_any is_equals_sign key) none in
    by both.0 (given_is key word both.1) (is_equals_sign b) refl
  where
    at : (t : Bool) → given_by key word ≡ given_at key word
        → cond (t && bytes_eq (take (position_or_len is_equals_sign word) word) key) (Some (drop (position_or_len is_equals_sign word + 1) word)) None ≡ cond t (given_at key word) None
    at true same = same
    at false same = refl

    by : is_equals_sign k ≡ false → given_by key word ≡ given_at key word → (t : Bool) → is_equals_sign b ≡ t
        → given_with (cond (not t) (1 + position_or_len is_equals_sign word) 0) (k ∷ key) (b ∷ word) ≡ cond (b == k) (given_at key word) None
    by none same true e = sym (ap (λ (t : Bool). cond t (given_at key word) None) (no_sign b k e none))
    by none same false e = with_more (position_or_len is_equals_sign word) (k ∷ key) b word ∙ at (b == k) same

-- a keyword that begins with another byte than the key
pub given-apart : (key word : List ℕ) → list_any is_equals_sign key ≡ false → begin_apart key word ≡ true → given_by key word ≡ None
given-apart [] word none apart = absurd (cc)
given-apart (k ∷ key) [] none apart = absurd (cc)
given-apart (k ∷ key) (b ∷ word) none apart = given_is (k ∷ key) (b ∷ word) none ∙ ap (λ (t : Bool). cond t (given_at key word) None) (not-true (b == k) apart)

begun : (key word : List ℕ) → bytes_eq (take (length key) word) key ≡ true → given_at key word ≡ given_at [] (drop (length key) word)
begun [] word is = refl
begun (k ∷ key) [] is = absurd (true≢false (sym is))
begun (k ∷ key) (b ∷ word) is = by (b == k) is (begun key word)
  where
    by : (t : Bool) → (t && bytes_eq (take (length key) word) key) ≡ true
        → (bytes_eq (take (length key) word) key ≡ true → given_at key word ≡ given_at [] (drop (length key) word))
        → cond t (given_at key word) None ≡ given_at [] (drop (length key) word)
    by true is more = more is
    by false is more = absurd (true≢false (sym is))

-- a keyword that begins with the key
module _ (key word : List ℕ) (none : list_any is_equals_sign key ≡ false) where
  pub given-begun : (behind : List ℕ) (ends : Bool) → bytes_eq (take (length key) word) key ≡ true → behind ≡ drop (length key) word → is_end_of_key behind ≡ ends
      → given_by key word ≡ cond ends (Some (drop 1 behind)) None
  given-begun behind ends is at end =
      given_is key word none ∙ begun key word is ∙ ap (given_at []) (sym at) ∙ ap (λ (t : Bool). cond t (Some (drop 1 behind)) None) end
