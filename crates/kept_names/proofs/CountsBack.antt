-- The counts that are printed are read back.
use Rattle.std.proofs.Common.{◌≡◌, ℕ, ◌==◌, ◌<◌, ◌≤◌, ◌^◌, Bool, true, false, not, List, [], ◌∷◌, ◌++◌, decimal, Some, None, refl, ap, ◌∙◌, arith, subst, append_assoc}
use Rattle.std.specs.Prelude.{codes, find, flat_map, length, map, option_map, filter_map}
use Rattle.std.specs.Char.{digit_value}
use Rattle.std.specs.List.{All, cons_option, list_all}
use Rattle.std.specs.Str.{bytes_eq}
use Rattle.std.specs.Str.Parse.{AllDigits, digits_value}
use Rattle.std.proofs.lemmas.Bool.{and_parts, eqb-true, not-true}
use Rattle.std.proofs.lemmas.Fmt.{decimal_is_IsNumeral}
use Rattle.std.proofs.lemmas.List.Elements.{All-append, All-cons, All-from_recursion, All-head, All-nil, All-tail}
use Rattle.std.proofs.lemmas.List.Splits.{slice_split_at}
use Rattle.idtext.specs.Pieces.{lines, pieces}
use Rattle.idtext.specs.Spaces.{cut_at_last_space}
use Rattle.idtext.proofs.PieceLemmas.{lines-cut, lines-empty}
use Rattle.kept_names.specs.Telling.{Counts, count_line, counted, counts_text}
use Rattle.kept_names.specs.TellingLaws.{AreOf64Bits, CountsAreReadBack, number_told, row_of}

-- ---- digits

-- a byte that is no digit is none of a number
other : (c : ℕ) → 10 ≤ digit_value c → (b : ℕ) → digit_value b < 10 → (b == c) ≡ false
other c none b digit = by (b == c) refl
  where
    by : (is : Bool) → (b == c) ≡ is → is ≡ false
    by false e = refl
    by true e = let d : digit_value c < 10 = subst (λ x. digit_value x < 10) (eqb-true b c e) digit in absurd (omega arith)

abbrev IsNoEnd : ℕ → Type 0
IsNoEnd b = (b == 10) ≡ false

digits-end : (ds : List ℕ) → AllDigits 10 ds → All IsNoEnd ds
digits-end [] all = All-nil IsNoEnd
digits-end (d ∷ ds) all = All-cons IsNoEnd d ds (other 10 (omega arith) d all.0) (digits-end ds all.1)

digits-space : (ds : List ℕ) → AllDigits 10 ds → cut_at_last_space ds ≡ None
unfolding cut_at_last_space
digits-space [] all = refl
digits-space (d ∷ ds) all = rw (digits-space ds all.1, other 32 (omega arith) d all.0) refl

word-space : (word ds : List ℕ) → AllDigits 10 ds → cut_at_last_space (word ++ 32 ∷ ds) ≡ Some (word, ds)
unfolding cut_at_last_space
word-space [] ds all = rw (digits-space ds all) refl
word-space (b ∷ word) ds all = rw (word-space word ds all) refl

-- ---- lines

word-end : (word : List ℕ) → list_all (λ b. not (b == 10)) word ≡ true → All IsNoEnd word
word-end [] is = All-nil IsNoEnd
word-end (b ∷ bs) is =
    let parts = and_parts (not (b == 10)) (list_all (λ c. not (c == 10)) bs) is in
    All-cons IsNoEnd b bs (not-true (b == 10) parts.0) (word-end bs parts.1)

piece-first : (line rest : List ℕ) → All IsNoEnd line → pieces 10 (line ++ 10 ∷ rest) ≡ line ∷ pieces 10 rest
unfolding pieces
piece-first line rest none = slice_split_at (λ b. b == 10) line 10 rest none refl

line-first : (line rest : List ℕ) → All IsNoEnd line → lines (line ++ 10 ∷ rest) ≡ line ∷ lines rest
line-first line rest none = lines-cut (line ++ 10 ∷ rest) line rest (piece-first line rest none)

abbrev pub Row : Type 0
Row = List ℕ × ℕ

abbrev pub Fits : Row → Type 0
Fits row = row.1 < 2 ^ 64

-- a line without its newline
abbrev pub bare : Row → List ℕ
bare row = row.0 ++ 32 ∷ decimal row.1

pub rows-lines : (rows : List Row) → list_all (λ (row : Row). list_all (λ b. not (b == 10)) row.0) rows ≡ true → All Fits rows → lines (flat_map count_line rows) ≡ map bare rows
rows-lines [] words small = lines-empty
rows-lines (row ∷ rows) words small =
    let parts = and_parts (list_all (λ b. not (b == 10)) row.0) (list_all (λ (r : Row). list_all (λ b. not (b == 10)) r.0) rows) words in
    let is = decimal_is_IsNumeral row.1 (All-head Fits row rows small) in
    let rest : List ℕ = flat_map count_line rows in
    let none : All IsNoEnd (bare row) = All-append IsNoEnd row.0 (32 ∷ decimal row.1) (word-end row.0 parts.0) (All-cons IsNoEnd 32 (decimal row.1) refl (digits-end (decimal row.1) is.0.1)) in
    ap lines (append_assoc (bare row) (10 ∷ []) rest) ∙ line-first (bare row) rest none
    ∙ ap (λ others. bare row ∷ others) (rows-lines rows parts.1 (All-tail Fits row rows small))

pub rows-said : (rows : List Row) → All Fits rows → filter_map row_of (map bare rows) ≡ rows
rows-said [] small = refl
rows-said (row ∷ rows) small =
    let is = decimal_is_IsNumeral row.1 (All-head Fits row rows small) in
    ap (λ cut. cons_option (option_map (λ (p : List ℕ × List ℕ). (p.0, digits_value 10 p.1)) cut) (filter_map row_of (map bare rows))) (word-space row.0 (decimal row.1) is.0.1)
    ∙ ap (λ n. (row.0, n) ∷ filter_map row_of (map bare rows)) is.1
    ∙ ap (λ others. row ∷ others) (rows-said rows (All-tail Fits row rows small))

module _ (counts : Counts) (are : AreOf64Bits counts) where
  fit : All Fits (counted counts)
  fit = All-from_recursion Fits (counted counts) (are.kept, (are.missing, (are.changed, (are.new, (are.unnamed, (are.left, tt))))))

  lines-are : lines (counts_text counts) ≡ map bare (counted counts)
  lines-are = rows-lines (counted counts) refl fit

  told : (word : List ℕ) → number_told word (counts_text counts) ≡ option_map (λ (row : Row). row.1) (find (λ row. bytes_eq row.0 word) (counted counts))
  told word = ap (λ (rows : List Row). option_map (λ (row : Row). row.1) (find (λ row. bytes_eq row.0 word) rows)) (ap (filter_map row_of) lines-are ∙ rows-said (counted counts) fit)

pub counts-back : CountsAreReadBack
counts-back counts are = record {
  kept = told counts are (codes "kept");
  missing = told counts are (codes "missing");
  changed = told counts are (codes "changed");
  new = told counts are (codes "new");
  unnamed = told counts are (codes "unnamed");
  left = told counts are (codes "left");
  six = ap length (lines-are counts are);
}
