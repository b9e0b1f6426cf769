-- How many more there are of each kind is read back.
use Rattle.std.proofs.Common.{◌≡◌, ℕ, ◌+◌, ◌-◌, ◌==◌, ◌<◌, ◌^◌, Bool, true, false, cond, not, List, [], ◌∷◌, ◌++◌, length, Option, Some, None, refl, sym, ap, ◌∙◌, append_assoc, arith}
use Rattle.std.specs.Prelude.{codes, count_by, filter_map, find, flat_map, is_some, map, nat_lt, option_map}
use Rattle.std.specs.List.{All, cons_option, list_all}
use Rattle.std.specs.Str.{bytes_eq}
use Rattle.std.proofs.lemmas.Bool.{and_parts}
use Rattle.std.proofs.lemmas.List.{length-map}
use Rattle.std.proofs.lemmas.List.Elements.{All-cons, All-nil}
use Rattle.std.proofs.lemmas.List.Sums.{count_by-le-length, length-filter}
use Rattle.idtext.specs.Pieces.{lines}
use Rattle.kept_names.specs.Kept.{Found}
use Rattle.kept_names.specs.Telling.{count_line, kind_word, kinds, more_line, more_of, more_text, number_of}
use Rattle.kept_names.specs.TellingLaws.{MoreAreReadBack, not_told, number_told, row_of}
use Rattle.kept_names.specs.declared.finding.What.{What}
use Rattle.kept_names.specs.declared.finding.What.TheVariants.{Missing, Changed, New, Unnamed, Left}
use Rattle.kept_names.proofs.AddUp.{count-cons}
use Rattle.kept_names.proofs.CountsBack.{Fits, Row, bare, rows-lines, rows-said}

-- what stands before the number
abbrev head : List ℕ → List ℕ
head word = codes "unify: more " ++ word ++ codes ":"

line-is : (word : List ℕ) (n : ℕ) → more_line word n ≡ count_line (head word, n)
line-is word n = simp append_assoc

abbrev IsPlain : List ℕ → Bool
IsPlain bytes = list_all (λ b. not (b == 10)) bytes

module _ (most : ℕ) (found : List Found) where
  abbrev number : List ℕ → ℕ
  number word = number_of word found

  abbrev has_more : List ℕ → Bool
  has_more word = nat_lt most (number word)

  abbrev row : List ℕ → Option Row
  row word = cond (has_more word) (Some (head word, number word - most)) None

  abbrev rows : List (List ℕ) → List Row
  rows words = filter_map row words

  text-is : (words : List (List ℕ)) → flat_map (λ word. more_of most word (number word)) words ≡ flat_map count_line (rows words)
  text-is [] = refl
  text-is (w ∷ ws) = ap (λ more. more_of most w (number w) ++ more) (text-is ws) ∙ by (has_more w)
    where
      by : (b : Bool) → cond b (more_line w (number w - most)) [] ++ flat_map count_line (rows ws) ≡ flat_map count_line (cons_option (cond b (Some (head w, number w - most)) None) (rows ws))
      by true = ap (λ line. line ++ flat_map count_line (rows ws)) (line-is w (number w - most))
      by false = refl

  abbrev ArePlain : List Row → Bool
  ArePlain rs = list_all (λ (r : Row). IsPlain r.0) rs

  plain : (words : List (List ℕ)) → list_all (λ w. IsPlain (head w)) words ≡ true → ArePlain (rows words) ≡ true
  plain [] are = refl
  plain (w ∷ ws) are =
      let parts = and_parts (IsPlain (head w)) (list_all (λ v. IsPlain (head v)) ws) are in
      by (has_more w) parts.0 (plain ws parts.1)
    where
      by : (b : Bool) → IsPlain (head w) ≡ true → ArePlain (rows ws) ≡ true → ArePlain (cons_option (cond b (Some (head w, number w - most)) None) (rows ws)) ≡ true
      by true one rest = rw (one, rest) refl
      by false one rest = rest

  fits-cons : length found < 2 ^ 64 → (w : List ℕ) (rs : List Row) → All Fits rs → (b : Bool) → All Fits (cons_option (cond b (Some (head w, number w - most)) None) rs)
  fits-cons small w rs fit true =
      let few = count_by-le-length (λ (f : Found). bytes_eq (kind_word f.what) w) found in
      All-cons Fits (head w, number w - most) rs (omega (arith, few, small)) fit
  fits-cons small w rs fit false = fit

  fits : length found < 2 ^ 64 → (words : List (List ℕ)) → All Fits (rows words)
  fits small [] = All-nil Fits
  fits small (w ∷ ws) = fits-cons small w (rows ws) (fits small ws) (has_more w)

  -- the number at the first row with a word
  abbrev look : List ℕ → List Row → Option ℕ
  look word rs = option_map (λ (r : Row). r.1) (find (λ r. bytes_eq r.0 word) rs)

  pass : (word w : List ℕ) (ws : List (List ℕ)) → bytes_eq (head w) word ≡ false → look word (rows (w ∷ ws)) ≡ look word (rows ws)
  pass word w ws other = by (has_more w)
    where
      by : (b : Bool) → look word (cons_option (cond b (Some (head w, number w - most)) None) (rows ws)) ≡ look word (rows ws)
      by true = ap (λ b. option_map (λ (r : Row). r.1) (cond b (Some (head w, number w - most)) (find (λ r. bytes_eq r.0 word) (rows ws)))) other
      by false = refl

  meet : (w : List ℕ) (ws : List (List ℕ)) → bytes_eq (head w) (head w) ≡ true → look (head w) (rows ws) ≡ None → look (head w) (rows (w ∷ ws)) ≡ not_told most w found
  meet w ws same none =
      by (has_more w)
      ∙ ap (λ n. cond (nat_lt most n) (Some (n - most)) None) (sym (length-filter (λ (f : Found). bytes_eq (kind_word f.what) w) found))
    where
      by : (b : Bool) → look (head w) (cons_option (cond b (Some (head w, number w - most)) None) (rows ws)) ≡ cond b (Some (number w - most)) None
      by true = ap (λ b. option_map (λ (r : Row). r.1) (cond b (Some (head w, number w - most)) (find (λ r. bytes_eq r.0 (head w)) (rows ws)))) same
      by false = none

  abbrev m : List ℕ
  m = codes "missing"

  abbrev c : List ℕ
  c = codes "changed"

  abbrev n : List ℕ
  n = codes "new"

  abbrev u : List ℕ
  u = codes "unnamed"

  abbrev l : List ℕ
  l = codes "left"

  by_kind : (what : What) → look (head (kind_word what)) (rows kinds) ≡ not_told most (kind_word what) found
  by_kind Missing = meet m (c ∷ n ∷ u ∷ l ∷ []) refl (pass (head m) c (n ∷ u ∷ l ∷ []) refl ∙ pass (head m) n (u ∷ l ∷ []) refl ∙ pass (head m) u (l ∷ []) refl ∙ pass (head m) l [] refl)
  by_kind (Changed uid gid) = pass (head c) m (c ∷ n ∷ u ∷ l ∷ []) refl ∙ meet c (n ∷ u ∷ l ∷ []) refl (pass (head c) n (u ∷ l ∷ []) refl ∙ pass (head c) u (l ∷ []) refl ∙ pass (head c) l [] refl)
  by_kind New = pass (head n) m (c ∷ n ∷ u ∷ l ∷ []) refl ∙ pass (head n) c (n ∷ u ∷ l ∷ []) refl ∙ meet n (u ∷ l ∷ []) refl (pass (head n) u (l ∷ []) refl ∙ pass (head n) l [] refl)
  by_kind (Unnamed user group) = pass (head u) m (c ∷ n ∷ u ∷ l ∷ []) refl ∙ pass (head u) c (n ∷ u ∷ l ∷ []) refl ∙ pass (head u) n (u ∷ l ∷ []) refl ∙ meet u (l ∷ []) refl (pass (head u) l [] refl)
  by_kind (Left user group) = pass (head l) m (c ∷ n ∷ u ∷ l ∷ []) refl ∙ pass (head l) c (n ∷ u ∷ l ∷ []) refl ∙ pass (head l) n (u ∷ l ∷ []) refl ∙ pass (head l) u (l ∷ []) refl ∙ meet l [] refl refl

  count-is : (words : List (List ℕ)) → length (rows words) ≡ count_by (λ word. is_some (not_told most word found)) words
  count-is [] = refl
  count-is (w ∷ ws) =
      by (has_more w)
      ∙ ap (λ x. cond (is_some (cond (nat_lt most x) (Some (x - most)) None)) 1 0 + length (rows ws)) (sym (length-filter (λ (f : Found). bytes_eq (kind_word f.what) w) found))
      ∙ ap (λ more. cond (is_some (not_told most w found)) 1 0 + more) (count-is ws)
      ∙ sym (count-cons (λ word. is_some (not_told most word found)) w ws)
    where
      by : (b : Bool) → length (cons_option (cond b (Some (head w, number w - most)) None) (rows ws)) ≡ cond (is_some (cond b (Some (number w - most)) None)) 1 0 + length (rows ws)
      by true = omega arith
      by false = omega arith

  module _ (small : length found < 2 ^ 64) where
    lines-are : lines (more_text most found) ≡ map bare (rows kinds)
    lines-are = ap lines (text-is kinds) ∙ rows-lines (rows kinds) (plain kinds refl) (fits small kinds)

    told : (word : List ℕ) → number_told word (more_text most found) ≡ look word (rows kinds)
    told word = ap (look word) (ap (filter_map row_of) lines-are ∙ rows-said (rows kinds) (fits small kinds))

pub more-back : MoreAreReadBack
more-back most found small = record {
  number = λ what. told most found small (head (kind_word what)) ∙ by_kind most found what;
  no_other = ap length (lines-are most found small) ∙ length-map (rows most found kinds) bare ∙ count-is most found kinds;
}
