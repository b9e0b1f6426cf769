-- A text whose lines are rows is read as these rows.
use Rattle.std.proofs.Common.{◌≡◌, ℕ, zero, suc, ◌+◌, ◌<◌, ◌≤◌, ◌==◌, cond, true, false, List, [], ◌∷◌, ◌++◌, map, flat_map, length, get_or, refl, sym, ap, ◌∙◌, subst, arith, Option, Some, Result, Ok, is_ok}
use Rattle.std.specs.List.{AllByRecursion, count_by, slice_get}
use Rattle.std.proofs.lemmas.List.Elements.{recursion_from_All}
use Rattle.std.proofs.lemmas.List.Sums.{sum_by-append, sum_by-cons}
use Rattle.std.proofs.lemmas.Option.{same_Some}
use Rattle.idtext.specs.declared.faults.TextFault.{TextFault}
use Rattle.idtext.specs.Names.{is_skipped}
use Rattle.idtext.specs.Pieces.{fields_of, lines}
use Rattle.idtext.proofs.PieceLemmas.{lines-empty}
use Rattle.accounts.specs.Accepted.{IsAccepted}
use Rattle.accounts.specs.Laws.{AreDistinct}
use Rattle.accounts.specs.Lines.{is_compat}
use Rattle.accounts.specs.Tables.{row_in, rows_from}
use Rattle.mergedfiles.specs.ReadBack.{IsRowLine, ReadsAs}
use Rattle.mergedfiles.proofs.ReadLines.{Lacks, line-first}

-- the text of an item is one line, which is read as a row
pub record SaysRow {X Row : Type 0} (from : ℕ → List (List ℕ) → Result Row TextFault) (text : X → List ℕ) (Is : X → Row → Type 0) (x : X) : Type 0 where
  pub line : List ℕ
  pub ends : text x ≡ line ++ 10 ∷ []
  pub one : Lacks 10 line
  pub kept : is_skipped line ≡ false
  pub not_compat : is_compat line ≡ false
  pub row : ℕ → Row
  pub read : (n : ℕ) → from n (fields_of line) ≡ Ok (row n)
  pub is : (n : ℕ) → Is x (row n)

-- each item has the row at its place
abbrev pub Zip : {X Row : Type 0} → (X → Row → Type 0) → List X → List Row → Type 0
Zip Is [] [] = Unit {0}
Zip Is [] (row ∷ rows) = ⊥
Zip Is (x ∷ xs) [] = ⊥
Zip Is (x ∷ xs) (row ∷ rows) = Is x row × Zip Is xs rows

pub all-says : {X : Type 0} (P Q : X → Type 0) → ((x : X) → P x → Q x) → (xs : List X) → AllByRecursion P xs → AllByRecursion Q xs
all-says P Q f [] all = tt
all-says P Q f (x ∷ xs) all = (f x all.0, all-says P Q f xs all.1)

-- ---- newlines

abbrev newlines : List ℕ → ℕ
newlines text = count_by (λ b. b == 10) text

no-newline : (line : List ℕ) → Lacks 10 line → newlines line ≡ 0
no-newline [] none = refl
no-newline (b ∷ line) none = sum_by-cons (λ c. cond (c == 10) 1 0) b line ∙ omega (arith, ap (λ is. cond {A = ℕ} is 1 0) none.0, no-newline line none.1)

newline-more : (line rest : List ℕ) → Lacks 10 line → newlines ((line ++ 10 ∷ []) ++ rest) ≡ suc (newlines rest)
newline-more line rest none =
    sum_by-append (λ c. cond (c == 10) 1 0) (line ++ 10 ∷ []) rest
    ∙ omega (arith, sum_by-append (λ c. cond (c == 10) 1 0) line (10 ∷ []), no-newline line none)

-- ---- rows

module _ {X Row : Type 0} (from : ℕ → List (List ℕ) → Result Row TextFault) (text : X → List ℕ) (Is : X → Row → Type 0) where
  abbrev Says : X → Type 0
  Says x = SaysRow from text Is x

  abbrev pub lines_by : (xs : List X) → AllByRecursion Says xs → List (List ℕ)
  lines_by [] all = []
  lines_by (x ∷ xs) all = all.0.line ∷ lines_by xs all.1

  abbrev pub rows_by : (n : ℕ) (xs : List X) → AllByRecursion Says xs → List Row
  rows_by n [] all = []
  rows_by n (x ∷ xs) all = all.0.row n ∷ rows_by (n + 1) xs all.1

  pub zipped : (n : ℕ) (xs : List X) (all : AllByRecursion Says xs) → Zip Is xs (rows_by n xs all)
  zipped n [] all = tt
  zipped n (x ∷ xs) all = (all.0.is n, zipped (n + 1) xs all.1)

  text-lines : (xs : List X) (all : AllByRecursion Says xs) → lines (flat_map text xs) ≡ lines_by xs all
  text-lines [] all = lines-empty
  text-lines (x ∷ xs) all =
      ap (λ l. lines (l ++ flat_map text xs)) all.0.ends
      ∙ line-first all.0.line (flat_map text xs) all.0.one
      ∙ ap (λ ls. all.0.line ∷ ls) (text-lines xs all.1)

  as-many : (n : ℕ) (xs : List X) (all : AllByRecursion Says xs) → length (lines_by xs all) ≡ length (rows_by n xs all)
  as-many n [] all = refl
  as-many n (x ∷ xs) all = ap suc (as-many (n + 1) xs all.1)

  newlines-are : (n : ℕ) (xs : List X) (all : AllByRecursion Says xs) → newlines (flat_map text xs) ≡ length (rows_by n xs all)
  newlines-are n [] all = refl
  newlines-are n (x ∷ xs) all =
      ap (λ l. newlines (l ++ flat_map text xs)) all.0.ends
      ∙ newline-more all.0.line (flat_map text xs) all.0.one
      ∙ ap suc (newlines-are (n + 1) xs all.1)

  abbrev row_line : (n : ℕ) (x : X) (says : Says x) → IsRowLine from n says.line (says.row n)
  row_line n x says = record { kept = says.kept; not_compat = says.not_compat; read = says.read n }

  moved : (n m : ℕ) (l k : List ℕ) (r s : Row) → n ≡ m → l ≡ k → r ≡ s → IsRowLine from n l r → IsRowLine from m k s
  moved n m l k r s a b c is = subst (λ (i : ℕ). IsRowLine from i k s) a (subst (λ (t : List ℕ). IsRowLine from n t s) b (subst (λ (t : Row). IsRowLine from n l t) c is))

  -- m: the number of the line
  each-line : (n : ℕ) (xs : List X) (all : AllByRecursion Says xs) (k m : ℕ) (line : List ℕ) (row : Row) → m ≡ k + n → slice_get (lines_by xs all) k ≡ Some line → slice_get (rows_by n xs all) k ≡ Some row → IsRowLine from m line row
  each-line n [] all k m line row at l r = absurd (cc)
  each-line n (x ∷ xs) all zero m line row at l r = moved n m all.0.line line (all.0.row n) row (omega (arith, at)) (same_Some all.0.line line l) (same_Some (all.0.row n) row r) (row_line n x all.0)
  each-line n (x ∷ xs) all (suc k) m line row at l r = each-line (n + 1) xs all.1 k m line row (omega (arith, at)) l r

  module _ (line_of : ℕ → List ℕ → Result (Option Row) TextFault) (name : Row → List ℕ) (number : Row → ℕ)
      (passes : (n : ℕ) (line : List ℕ) (row : Row) → n ≤ 65536 → length line ≤ 65535 → IsRowLine from n line row → line_of n line ≡ Ok (Some row)) where
    rows-are : (n : ℕ) (xs : List X) (all : AllByRecursion Says xs) → n + length (lines_by xs all) ≤ 65537 → AllByRecursion (λ l. length l ≤ 65535) (lines_by xs all) → rows_from line_of name number n (lines_by xs all) ≡ rows_by n xs all
    unfolding rows_from
    rows-are n [] all few short = refl
    rows-are n (x ∷ xs) all few short =
        ap (λ told. row_in line_of name number told ++ rows_from line_of name number (n + 1) (lines_by xs all.1)) (passes n all.0.line (all.0.row n) (omega (arith, few)) short.0 (row_line n x all.0))
        ∙ ap (λ rows. all.0.row n ∷ rows) (rows-are (n + 1) xs all.1 (omega (arith, few)) short.1)

    all-pass : (n : ℕ) (xs : List X) (all : AllByRecursion Says xs) → n + length (lines_by xs all) ≤ 65537 → AllByRecursion (λ l. length l ≤ 65535) (lines_by xs all)
        → (i m : ℕ) → m ≡ i + n → i < length (lines_by xs all) → is_ok (line_of m (get_or (lines_by xs all) i [])) ≡ true
    all-pass n [] all few short i m at h = absurd (omega (arith, h))
    all-pass n (x ∷ xs) all few short zero m at h =
        let same : n ≡ m = omega (arith, at) in
        ap (λ k. is_ok (line_of k all.0.line)) (sym same) ∙ ap is_ok (passes n all.0.line (all.0.row n) (omega (arith, few)) short.0 (row_line n x all.0))
    all-pass n (x ∷ xs) all few short (suc i) m at h = all-pass (n + 1) xs all.1 (omega (arith, few)) short.1 i m (omega (arith, at)) (omega (arith, h))

    pub reads-as : (table : List ℕ → Result (List Row) TextFault) (xs : List X) (all : AllByRecursion Says xs)
        → (IsAccepted line_of name number (flat_map text xs) (rows_by 1 xs all) → table (flat_map text xs) ≡ Ok (rows_by 1 xs all))
        → AreDistinct (map name (rows_by 1 xs all)) → AreDistinct (map number (rows_by 1 xs all))
        → ReadsAs from table (flat_map text xs) (rows_by 1 xs all)
    reads-as table xs all accepted names numbers = record {
      as_many = ap length (text-lines xs all) ∙ as-many 1 xs all;
      newlines = newlines-are 1 xs all;
      each_line = λ k line row l r. each-line 1 xs all k (k + 1) line row refl (ap (λ ls. slice_get ls k) (sym (text-lines xs all)) ∙ l) r;
      whole = λ limits.
          let few : 1 + length (lines_by xs all) ≤ 65537 = omega (arith, limits.few_lines, ap length (text-lines xs all)) in
          let short : AllByRecursion (λ l. length l ≤ 65535) (lines_by xs all) = subst (λ ls. AllByRecursion (λ l. length l ≤ 65535) ls) (text-lines xs all) (recursion_from_All (λ l. length l ≤ 65535) (lines (flat_map text xs)) limits.short_lines) in
          accepted (record {
            rows_are = sym (ap (rows_from line_of name number 1) (text-lines xs all) ∙ rows-are 1 xs all few short);
            lines_pass = λ i h. subst (λ ls. is_ok (line_of (i + 1) (get_or ls i [])) ≡ true) (sym (text-lines xs all)) (all-pass 1 xs all few short i (i + 1) refl (omega (arith, h, ap length (text-lines xs all))));
            names_differ = names;
            numbers_differ = numbers;
          });
    }
