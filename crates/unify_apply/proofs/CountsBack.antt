-- What is counted is read back.
use Rattle.std.proofs.Common.{◌≡◌, ℕ, suc, ◌==◌, ◌<◌, ◌^◌, All, Bool, true, false, not, List, [], ◌∷◌, Some, None, drop, length, decimal, refl, ap, ◌∙◌, arith, subst, inl, inr}
use Rattle.std.specs.Prelude.{codes, find, flat_map, option_map}
use Rattle.std.specs.Char.{digit_value}
use Rattle.std.specs.List.{filter_map, cons_option, join_with_byte, list_all}
use Rattle.std.specs.Str.{bytes_eq}
use Rattle.std.specs.Str.Parse.{AllDigits, IsNumeral}
use Rattle.std.proofs.lemmas.Bool.{and_from, and_parts, eqb-true, not_from_false, or_cases}
use Rattle.std.proofs.lemmas.Fmt.{decimal_is_IsNumeral}
use Rattle.std.proofs.lemmas.List.Elements.{All-from_recursion, All-head, All-tail}
use Rattle.idtext.specs.Pieces.{lines}
use Rattle.idtext.specs.Words.{is_filled, is_white, words}
use Rattle.reown_files.specs.declared.counting.OwnerCounts.{OwnerCounts}
use Rattle.unify_apply.specs.Answers.{count_line, counted, counts_text, done_text}
use Rattle.unify_apply.specs.Laws.{AreOf64Bits, CountsAreReadBack, is_inside, is_word, number_told, row_of, rows_in}
use Rattle.unify_apply.proofs.WrittenLines.{line-first, no_lines, words-joined}

-- ---- a number is a word

not_white : (b : ℕ) → digit_value b < 10 → (white : Bool) → is_white b ≡ white → white ≡ false
not_white b digit false is = refl
not_white b digit true is =
    elim (or_cases (b == 32) (b == 9) is) [
      | inl h ↦ absurd (small 32 (eqb-true b 32 h) (omega arith))
      | inr h ↦ absurd (small 9 (eqb-true b 9 h) (omega arith))
    ]
  where
    small : (c : ℕ) → b ≡ c → 10 < digit_value c → ⊥
    small c same large = let d : digit_value c < 10 = subst (λ x. digit_value x < 10) same digit in omega arith

no_newline : (b : ℕ) → digit_value b < 10 → (end : Bool) → (b == 10) ≡ end → end ≡ false
no_newline b digit false is = refl
no_newline b digit true is =
    let d : digit_value 10 < 10 = subst (λ x. digit_value x < 10) (eqb-true b 10 is) digit in
    absurd (omega arith)

digits-inside : (ds : List ℕ) → AllDigits 10 ds → list_all is_inside ds ≡ true
digits-inside [] all = refl
digits-inside (d ∷ ds) all =
    and_from (is_inside d) (list_all is_inside ds)
    (and_from (not (is_white d)) (not (d == 10))
    (not_from_false (is_white d) (not_white d all.0 (is_white d) refl))
    (not_from_false (d == 10) (no_newline d all.0 (d == 10) refl)))
    (digits-inside ds all.1)

filled : (ds : List ℕ) → 0 < length ds → is_filled ds ≡ true
filled [] some = absurd (omega arith)
filled (d ∷ ds) some = refl

number-word : (n : ℕ) → n < 2 ^ 64 → is_word (decimal n) ≡ true
number-word n small =
    let is : IsNumeral 10 (decimal n) = (decimal_is_IsNumeral n small).0 in
    and_from (is_filled (decimal n)) (list_all is_inside (decimal n))
    (filled (decimal n) is.0) (digits-inside (decimal n) is.1)

-- ---- rows

abbrev row_words : List ℕ × ℕ → List (List ℕ)
row_words row = row.0 ∷ decimal row.1 ∷ []

rows-back : (rows : List (List ℕ × ℕ)) → list_all (λ row. is_word row.0) rows ≡ true
    → All (λ (row : List ℕ × ℕ). row.1 < 2 ^ 64) rows → rows_in (flat_map count_line rows) ≡ rows
rows-back [] are small = ap (filter_map (λ line. row_of (words line))) no_lines
rows-back (row ∷ rows) are small =
    let Fits : List ℕ × ℕ → Type 0 = λ r. r.1 < 2 ^ 64 in
    let parts = and_parts (is_word row.0) (list_all (λ r. is_word r.0) rows) are in
    let fits : row.1 < 2 ^ 64 = All-head Fits row rows small in
    let both : list_all is_word (row_words row) ≡ true =
    and_from (is_word row.0) (list_all is_word (decimal row.1 ∷ [])) parts.0
    (and_from (is_word (decimal row.1)) true (number-word row.1 fits) refl) in
    let rest : List ℕ = flat_map count_line rows in
    ap (filter_map (λ line. row_of (words line))) (line-first (row_words row) rest both)
    ∙ ap (λ ws. cons_option (row_of ws) (rows_in rest)) (words-joined (row_words row) both)
    ∙ ap (λ n. (row.0, n) ∷ rows_in rest) (decimal_is_IsNumeral row.1 fits).1
    ∙ ap (λ others. row ∷ others) (rows-back rows parts.1 (All-tail Fits row rows small))

rows-count : (rows : List (List ℕ × ℕ)) → list_all (λ row. is_word row.0) rows ≡ true
    → All (λ (row : List ℕ × ℕ). row.1 < 2 ^ 64) rows → length (lines (flat_map count_line rows)) ≡ length rows
rows-count [] are small = ap length no_lines
rows-count (row ∷ rows) are small =
    let Fits : List ℕ × ℕ → Type 0 = λ r. r.1 < 2 ^ 64 in
    let parts = and_parts (is_word row.0) (list_all (λ r. is_word r.0) rows) are in
    let both : list_all is_word (row_words row) ≡ true =
    and_from (is_word row.0) (list_all is_word (decimal row.1 ∷ [])) parts.0
    (and_from (is_word (decimal row.1)) true (number-word row.1 (All-head Fits row rows small)) refl) in
    ap length (line-first (row_words row) (flat_map count_line rows) both)
    ∙ ap (λ n. suc n) (rows-count rows parts.1 (All-tail Fits row rows small))

-- ---- what is counted

module _ (counts : OwnerCounts) (mounts : ℕ) (are : AreOf64Bits counts) (few : mounts < 2 ^ 64) where
  fit : All (λ (row : List ℕ × ℕ). row.1 < 2 ^ 64) (counted counts mounts)
  fit = All-from_recursion (λ (row : List ℕ × ℕ). row.1 < 2 ^ 64) (counted counts mounts)
      (are.before, (are.after, (are.missing, (are.foreign, (are.set_id, (are.linked, (few, tt)))))))

  told : (word : List ℕ) → number_told word (counts_text counts mounts)
      ≡ option_map (λ (row : List ℕ × ℕ). row.1) (find (λ row. bytes_eq row.0 word) (counted counts mounts))
  told word = ap (λ (rows : List (List ℕ × ℕ)). option_map (λ (row : List ℕ × ℕ). row.1) (find (λ row. bytes_eq row.0 word) rows)) (rows-back (counted counts mounts) refl fit)

pub counts-back : CountsAreReadBack
counts-back counts mounts are few = record {
  before = told counts mounts are few (codes "before");
  after = told counts mounts are few (codes "after");
  missing = told counts mounts are few (codes "missing");
  foreign = told counts mounts are few (codes "foreign");
  set_id = told counts mounts are few (codes "set-id");
  linked = told counts mounts are few (codes "linked");
  mounts = told counts mounts are few (codes "mounts");
  seven = rows-count (counted counts mounts) refl (fit counts mounts are few);
}

-- ---- a plan that was carried out

pub done-back : (records : ℕ) → records < 2 ^ 64
    → (rows_in (done_text records) ≡ (codes "records", records) ∷ []) × (drop 1 (lines (done_text records)) ≡ codes "done" ∷ [])
done-back records small =
    let row : List (List ℕ) = row_words (codes "records", records) in
    let both : list_all is_word row ≡ true = and_from true (list_all is_word (decimal records ∷ [])) refl
    (and_from (is_word (decimal records)) true (number-word records small) refl) in
    let last : lines (codes "done\n") ≡ codes "done" ∷ [] = line-first (codes "done" ∷ []) [] refl ∙ ap (λ ls. codes "done" ∷ ls) no_lines in
    let all : lines (done_text records) ≡ join_with_byte 32 row ∷ codes "done" ∷ [] =
    line-first row (codes "done\n") both ∙ ap (λ ls. join_with_byte 32 row ∷ ls) last in
    let first : row_of (words (join_with_byte 32 row)) ≡ Some (codes "records", records) =
    ap row_of (words-joined row both) ∙ ap (λ n. Some (codes "records", n)) (decimal_is_IsNumeral records small).1 in
    let second : row_of (words (codes "done")) ≡ None = ap row_of (words-joined (codes "done" ∷ []) refl) in (
      ap (filter_map (λ line. row_of (words line))) all
          ∙ ap (λ r. cons_option r (cons_option (row_of (words (codes "done"))) [])) first
          ∙ ap (λ r. (codes "records", records) ∷ cons_option r []) second,
      ap (drop 1) all,
    )
