-- A text whose lines are renumbered is read as its rows renumbered.
use Rattle.std.proofs.Common.{◌≡◌, ◌⊎◌, ℕ, zero, suc, ◌+◌, ◌<◌, ◌≤◌, ◌==◌, Bool, true, false, cond, List, [], ◌∷◌, ◌++◌, map, length, get_or, refl, sym, ap, ◌∙◌, subst, arith, inl, inr, Option, Some, None, Result, Ok, Err, is_ok}
use Rattle.std.specs.Prelude.{◌↔◌, nat_lt, slice_get}
use Rattle.std.specs.List.{AllByRecursion, AllZip, find}
use Rattle.std.specs.Option.{option_map}
use Rattle.std.proofs.lemmas.Bool.{true≢false}
use Rattle.std.proofs.lemmas.List.{length-map}
use Rattle.std.proofs.lemmas.List.Elements.{recursion_from_All}
use Rattle.std.proofs.lemmas.Option.{same_Some}
use Rattle.idtext.specs.declared.faults.TextCode.TheVariants.{TooManyLines, LineTooLong, CompatLine}
use Rattle.idtext.specs.declared.faults.TextFault.{TextFault}
use Rattle.idtext.specs.Faults.{refused}
use Rattle.idtext.specs.First.{◌>>=◌}
use Rattle.idtext.specs.Names.{is_skipped}
use Rattle.idtext.specs.Pieces.{fields_of, lines}
use Rattle.idtext.proofs.OkLemmas.{ok_same}
use Rattle.accounts.specs.Accepted.{IsAccepted}
use Rattle.accounts.specs.Laws.{AreDistinct}
use Rattle.accounts.specs.Lines.{is_compat, is_kept}
use Rattle.accounts.specs.Tables.{row_in, rows_from}
use Rattle.hosts_join.specs.Accounts.{Accounts, place_of}
use Rattle.ownership.specs.Mappings.{number_under}
use Rattle.mergedfiles.specs.FullTables.{AreNumberedRows, IsFullFile, IsRenumbered}
use Rattle.mergedfiles.specs.HostFiles.{renumbered_line, renumbered_text}
use Rattle.mergedfiles.specs.HostReadBack.{AreLinesRenumbered, IsLineRenumbered, IsRowRenumbered}
use Rattle.mergedfiles.specs.ReadBack.{IsRowLine, KeepsLimits}
use Rattle.mergedfiles.proofs.HostLines.{StaysLine, lines-renumbered, newlines-renumbered}
use Rattle.mergedfiles.proofs.HostNames.{all-apart, names-kept, names-same, numbered-rows, numbers-apart}
use Rattle.mergedfiles.proofs.HostSteps.{line-skipped}
use Rattle.mergedfiles.proofs.ReadLines.{Lacks, lines-lack}

-- ---- what a line is that passes

-- what a line says, from what is told of it as a whole and of its fields
abbrev pub line_by : {Row : Type 0} → Result Bool TextFault → Result Row TextFault → Result (Option Row) TextFault
line_by kept row = kept >>= λ k. cond k (row >>= λ r. Ok (Some r)) (Ok None)

abbrev kept_by : ℕ → Bool → Bool → Bool → Bool → Result Bool TextFault
kept_by n many long skipped compat =
    cond many (refused n TooManyLines) (cond long (refused n LineTooLong) (cond skipped (Ok false) (cond compat (refused n CompatLine) (Ok true))))

-- a line that is skipped, or one that has a row
abbrev pub IsTold : {Row : Type 0} → (ℕ → List (List ℕ) → Result Row TextFault) → ℕ → List ℕ → Result (Option Row) TextFault → Type 0
IsTold {Row} from n line told = ((is_skipped line ≡ true) × (told ≡ Ok None)) ⊎ ((row : Row) × IsRowLine from n line row × (told ≡ Ok (Some row)))

pub told-of : {Row : Type 0} (from : ℕ → List (List ℕ) → Result Row TextFault) (n : ℕ) (line : List ℕ) → is_ok (line_by (is_kept n line) (from n (fields_of line))) ≡ true → IsTold from n line (line_by (is_kept n line) (from n (fields_of line)))
told-of {Row} from n line ok = by (nat_lt 65536 n) (nat_lt 65535 (length line)) (is_skipped line) (is_compat line) (from n (fields_of line)) refl refl refl ok
  where
    by : (many long skipped compat : Bool) (row : Result Row TextFault) → is_skipped line ≡ skipped → is_compat line ≡ compat → from n (fields_of line) ≡ row
        → is_ok (line_by (kept_by n many long skipped compat) row) ≡ true → IsTold from n line (line_by (kept_by n many long skipped compat) row)
    by true long skipped compat row s c r e = absurd (cc)
    by false true skipped compat row s c r e = absurd (cc)
    by false false true compat row s c r e = inl (s, refl)
    by false false false true row s c r e = absurd (cc)
    by false false false false (Err fault) s c r e = absurd (cc)
    by false false false false (Ok row) s c r e = inr (row, record { kept = s; not_compat = c; read = r }, refl)

-- ---- lines one after the other

-- line_of: the row of a line with its number; name and number: of a row
-- new: the row that a row becomes; Becomes was row: what is told of that
module _ {Row : Type 0} (from : ℕ → List (List ℕ) → Result Row TextFault) (line_of : ℕ → List ℕ → Result (Option Row) TextFault) (name : Row → List ℕ) (number : Row → ℕ)
    (renumbered : List (List ℕ) → List (List ℕ)) (new : Row → Row)
    (told : (n : ℕ) (line : List ℕ) → is_ok (line_of n line) ≡ true → IsTold from n line (line_of n line))
    (made : (n : ℕ) (line : List ℕ) (row : Row) → Lacks 10 line → IsRowLine from n line row → IsRowLine from n (renumbered_line renumbered line) (new row) × Lacks 10 (renumbered_line renumbered line))
    (passes : (n : ℕ) (line : List ℕ) (row : Row) → n ≤ 65536 → length line ≤ 65535 → IsRowLine from n line row → line_of n line ≡ Ok (Some row))
    (Becomes : Row → Row → Type 0) where
  abbrev Has : Row → Type 0
  Has row = Becomes row (new row)

  abbrev f : List ℕ → List ℕ
  f = renumbered_line renumbered

  record HasRow (n : ℕ) (line : List ℕ) : Type 0 where
    row : Row
    is : IsRowLine from n line row
    says : line_of n line ≡ Ok (Some row)
    has : Has row
    after : IsRowLine from n (f line) (new row)
    one : Lacks 10 (f line)

  abbrev IsSkipped : ℕ → List ℕ → Type 0
  IsSkipped n line = (is_skipped line ≡ true) × (line_of n line ≡ Ok None)

  abbrev Told : ℕ → List ℕ → Type 0
  Told n line = IsSkipped n line ⊎ HasRow n line

  abbrev AllTold : ℕ → List (List ℕ) → Type 0
  AllTold n [] = Unit {0}
  AllTold n (line ∷ more) = Told n line × AllTold (n + 1) more

  abbrev HaveAll : Result (Option Row) TextFault → List Row → Type 0
  HaveAll says rest = AllByRecursion Has (row_in line_of name number says ++ rest)

  all-told : (n : ℕ) (ls : List (List ℕ)) → AllByRecursion (Lacks 10) ls → ((i m : ℕ) → m ≡ i + n → i < length ls → is_ok (line_of m (get_or ls i [])) ≡ true) → AllByRecursion Has (rows_from line_of name number n ls) → AllTold n ls
  unfolding rows_from
  all-told n [] lacks pass has = tt
  all-told n (line ∷ more) lacks pass has =
      by (told n line (pass zero n (omega arith) (omega arith))) (λ later. all-told (n + 1) more lacks.1 (λ i m at h. pass (suc i) m (omega (arith, at)) (omega (arith, h))) later)
    where
      by : IsTold from n line (line_of n line) → (AllByRecursion Has (rows_from line_of name number (n + 1) more) → AllTold (n + 1) more) → Told n line × AllTold (n + 1) more
      by (inl skipped) later = (inl skipped, later (subst (λ says. HaveAll says (rows_from line_of name number (n + 1) more)) skipped.1 has))
      by (inr (row, is, says)) later =
          let all = subst (λ says. HaveAll says (rows_from line_of name number (n + 1) more)) says has in
          let made_so = made n line row lacks.0 is in
          (inr (record { row = row; is = is; says = says; has = all.0; after = made_so.0; one = made_so.1 }), later all.1)

  not-skipped : (line : List ℕ) → is_skipped line ≡ false → line ≡ [] → ⊥
  not-skipped [] kept e = true≢false kept
  not-skipped (b ∷ bs) kept e = cc

  stays : (n : ℕ) (line : List ℕ) → Lacks 10 line → Told n line → StaysLine f line
  stays n line lacks (inl skipped) =
      let same = line-skipped renumbered line skipped.0 in
      record { one = subst (λ t. Lacks 10 t) (sym same) lacks; filled = λ e. sym same ∙ e }
  stays n line lacks (inr row) = record { one = row.one; filled = λ e. absurd (not-skipped (f line) row.after.kept e) }

  all-stay : (n : ℕ) (ls : List (List ℕ)) → AllByRecursion (Lacks 10) ls → AllTold n ls → AllByRecursion (StaysLine f) ls
  all-stay n [] lacks all = tt
  all-stay n (line ∷ more) lacks all = (stays n line lacks.0 all.0, all-stay (n + 1) more lacks.1 all.1)

  -- what the new line says
  abbrev row_then : (n : ℕ) (line : List ℕ) → Told n line → Option Row
  row_then n line (inl skipped) = None
  row_then n line (inr row) = Some (new row.row)

  says-then : (n : ℕ) (line : List ℕ) (t : Told n line) → is_ok (line_of n (f line)) ≡ true → line_of n (f line) ≡ Ok (row_then n line t)
  says-then n line (inl skipped) ok = ap (line_of n) (line-skipped renumbered line skipped.0) ∙ skipped.1
  says-then n line (inr row) ok = by (told n (f line) ok)
    where
      by : IsTold from n (f line) (line_of n (f line)) → line_of n (f line) ≡ Ok (Some (new row.row))
      by (inl skipped) = absurd (true≢false (sym skipped.0 ∙ row.after.kept))
      by (inr (read, is, says)) = says ∙ ap (λ (r : Row). Ok (Some r)) (ok_same read (new row.row) (sym is.read ∙ row.after.read))

  -- each new line passes; the first has number n
  abbrev Pass : ℕ → List (List ℕ) → Type 0
  Pass n ls = (i m : ℕ) → m ≡ i + n → i < length (map f ls) → is_ok (line_of m (get_or (map f ls) i [])) ≡ true

  pass-first : (n : ℕ) (line : List ℕ) (more : List (List ℕ)) → Pass n (line ∷ more) → is_ok (line_of n (f line)) ≡ true
  pass-first n line more pass = pass zero n (omega arith) (omega arith)

  pass-rest : (n : ℕ) (line : List ℕ) (more : List (List ℕ)) → Pass n (line ∷ more) → Pass (n + 1) more
  pass-rest n line more pass = λ i m at h. pass (suc i) m (omega (arith, at)) (omega (arith, h))

  rows-then : (n : ℕ) (ls : List (List ℕ)) → AllTold n ls → Pass n ls → rows_from line_of name number n (map f ls) ≡ map new (rows_from line_of name number n ls)
  unfolding rows_from
  rows-then n [] all pass = refl
  rows-then n (line ∷ more) all pass = by all.0 (says-then n line all.0 (pass-first n line more pass)) (rows-then (n + 1) more all.1 (pass-rest n line more pass))
    where
      by : (t : Told n line) → line_of n (f line) ≡ Ok (row_then n line t) → rows_from line_of name number (n + 1) (map f more) ≡ map new (rows_from line_of name number (n + 1) more)
          → row_in line_of name number (line_of n (f line)) ++ rows_from line_of name number (n + 1) (map f more) ≡ map new (row_in line_of name number (line_of n line) ++ rows_from line_of name number (n + 1) more)
      by (inl skipped) e later = rw (e, skipped.1) later
      by (inr row) e later = rw (e, row.says) (ap (λ rows. new row.row ∷ rows) later)

  -- short lines pass
  abbrev IsShort : List ℕ → Type 0
  IsShort line = length line ≤ 65535

  one-passes : (n : ℕ) (line : List ℕ) → Told n line → n ≤ 65536 → IsShort (f line) → is_ok (line_of n (f line)) ≡ true
  one-passes n line (inl skipped) few short = ap is_ok (ap (line_of n) (line-skipped renumbered line skipped.0) ∙ skipped.1)
  one-passes n line (inr row) few short = ap is_ok (passes n (f line) (new row.row) few short row.after)

  all-pass : (n : ℕ) (ls : List (List ℕ)) → AllTold n ls → n + length ls ≤ 65537 → AllByRecursion IsShort (map f ls) → Pass n ls
  all-pass n [] all few short i m at h = absurd (omega (arith, h))
  all-pass n (line ∷ more) all few short zero m at h =
      let same : m ≡ n = omega (arith, at) in
      ap (λ k. is_ok (line_of k (f line))) same ∙ one-passes n line all.0 (omega (arith, few)) short.0
  all-pass n (line ∷ more) all few short (suc i) m at h = all-pass (n + 1) more all.1 (omega (arith, few)) short.1 i m (omega (arith, at)) (omega (arith, h))

  -- the line at a place, and the new one there
  record IsAtPlace (m : ℕ) (line other : List ℕ) : Type 0 where
    is : other ≡ f line
    tells : Told m line

  moved : (n m : ℕ) (line new_line : List ℕ) → n ≡ m → line ≡ new_line → Told n line → Told m new_line
  moved n m line new_line a b t = subst (λ (k : ℕ). Told k new_line) a (subst (λ (l : List ℕ). Told n l) b t)

  at-place : (n : ℕ) (ls : List (List ℕ)) → AllTold n ls → (k m : ℕ) (line other : List ℕ) → m ≡ k + n → slice_get ls k ≡ Some line → slice_get (map f ls) k ≡ Some other → IsAtPlace m line other
  at-place n [] all k m line other at l o = absurd (cc)
  at-place n (x ∷ more) all zero m line other at l o =
      let same : x ≡ line = same_Some x line l in
      record { is = sym (same_Some (f x) other o) ∙ ap f same; tells = moved n m x line (omega (arith, at)) same all.0 }
  at-place n (x ∷ more) all (suc k) m line other at l o = at-place (n + 1) more all.1 k m line other (omega (arith, at)) l o

  -- ---- the whole text

  pub zip-new : (rows : List Row) → AllByRecursion Has rows → AllZip Becomes rows (map new rows)
  zip-new [] all = tt
  zip-new (row ∷ rows) all = (all.0, zip-new rows all.1)

  row-at : (m : ℕ) (line other : List ℕ) → is_skipped line ≡ false → other ≡ f line → Told m line → IsRowRenumbered from Becomes m line other
  row-at m line other kept is (inl skipped) = absurd (true≢false (sym skipped.0 ∙ kept))
  row-at m line other kept is (inr row) = record {
    was = row.row;
    was_read = row.is;
    row = new row.row;
    read = subst (λ (t : List ℕ). IsRowLine from m t (new row.row)) (sym is) row.after;
    becomes = row.has;
  }

  line-at : (m : ℕ) (line other : List ℕ) → IsAtPlace m line other → IsLineRenumbered from Becomes m line other
  line-at m line other at = record {
    skipped = λ skipped. at.is ∙ line-skipped renumbered line skipped;
    kept = λ kept. row-at m line other kept at.is at.tells;
  }

  module _ (text : List ℕ) (rows : List Row) (accepted : IsAccepted line_of name number text rows) (has : AllByRecursion Has rows) where
    tells : AllTold 1 (lines text)
    tells =
        all-told 1 (lines text) (lines-lack text) (λ i m at h. subst (λ (k : ℕ). is_ok (line_of k (get_or (lines text) i [])) ≡ true) (sym at) (accepted.lines_pass i h))
        (subst (λ (rs : List Row). AllByRecursion Has rs) accepted.rows_are has)

    stay : AllByRecursion (StaysLine f) (lines text)
    stay = all-stay 1 (lines text) (lines-lack text) tells

    new-lines : lines (renumbered_text renumbered text) ≡ map f (lines text)
    new-lines = lines-renumbered renumbered text stay

    pub are-lines : AreLinesRenumbered from Becomes text (renumbered_text renumbered text)
    are-lines = record {
      as_many = ap length new-lines ∙ length-map (lines text) f;
      newlines = newlines-renumbered renumbered text stay;
      each_line = λ k line other l o. line-at (k + 1) line other (at-place 1 (lines text) tells k (k + 1) line other refl l (ap (λ ls. slice_get ls k) (sym new-lines) ∙ o));
    }

    new-rows : Pass 1 (lines text) → rows_from line_of name number 1 (lines (renumbered_text renumbered text)) ≡ map new rows
    new-rows pass = ap (rows_from line_of name number 1) new-lines ∙ rows-then 1 (lines text) tells pass ∙ sym (ap (map new) accepted.rows_are)

    -- the only rows that the new text may have
    pub only-rows : (table : List Row) → IsAccepted line_of name number (renumbered_text renumbered text) table → table ≡ map new rows
    only-rows table is =
        is.rows_are ∙ new-rows (λ i m at h. subst (λ (k : ℕ). is_ok (line_of k (get_or (map f (lines text)) i [])) ≡ true) (sym at)
        (subst (λ (ls : List (List ℕ)). is_ok (line_of (i + 1) (get_or ls i [])) ≡ true) new-lines (is.lines_pass i (omega (arith, h, ap length new-lines)))))

    pub is-accepted : KeepsLimits (renumbered_text renumbered text) → AreDistinct (map name (map new rows)) → AreDistinct (map number (map new rows))
        → IsAccepted line_of name number (renumbered_text renumbered text) (map new rows)
    is-accepted limits names numbers =
        let few : 1 + length (lines text) ≤ 65537 = omega (arith, limits.few_lines, ap length new-lines ∙ length-map (lines text) f) in
        let short : AllByRecursion IsShort (map f (lines text)) = subst (λ (ls : List (List ℕ)). AllByRecursion IsShort ls) new-lines (recursion_from_All IsShort (lines (renumbered_text renumbered text)) limits.short_lines) in
        let pass : Pass 1 (lines text) = all-pass 1 (lines text) tells few short in
        record {
          rows_are = sym (new-rows pass);
          lines_pass = λ i h. subst (λ (ls : List (List ℕ)). is_ok (line_of (i + 1) (get_or ls i [])) ≡ true) (sym new-lines) (pass i (i + 1) refl (omega (arith, h, ap length new-lines)));
          names_differ = names;
          numbers_differ = numbers;
        }

  -- ---- what is told of it

  -- accepted: when a text has a table; places: the new number of a row is that of its name, or else stays
  module _ (table_of : List ℕ → Result (List Row) TextFault) (accepted : (text : List ℕ) (rows : List Row) → (table_of text ≡ Ok rows) ↔ IsAccepted line_of name number text rows)
      (a : Accounts) (m : List ℕ) (keeps : (row : Row) → name (new row) ≡ name row) (places : (row : Row) → number (new row) ≡ number_under m (place_of a.names (name row)) (number row)) where
    pub full-file : (full joined : List Row) (text : List ℕ) → AreNumberedRows name number a m full joined → AllByRecursion Has full → table_of text ≡ Ok full
        → IsFullFile from table_of (λ rows v. option_map name (find (λ row. v == number row) rows)) Becomes a m full joined text (renumbered_text renumbered text)
    full-file full joined text is has read =
        let was = (accepted text full).0 read in
        let now = renumbered_text renumbered text in
        let all = numbered-rows a m is.len is.numbers.distinct name number new keeps places full is.kept in
        let apart = all-apart a m is.len is.numbers.distinct name number new keeps full was.names_differ was.numbers_differ in
        let names : AreDistinct (map name (map new full)) = subst (λ (ns : List (List ℕ)). AreDistinct ns) (sym (names-same a m is.len is.numbers.distinct name number new keeps full)) was.names_differ in
        let numbers = numbers-apart a m is.len is.numbers.distinct name number new keeps full all apart in
        record {
          by_line = are-lines text full was has;
          rows = map new full;
          by_row = zip-new full has;
          only = λ table told_new. only-rows text full was has table ((accepted now table).0 told_new);
          whole = λ limits. (accepted now (map new full)).1 (is-accepted text full was has limits names numbers);
          names_are_kept = λ id v told_new. names-kept a m is.len is.numbers.distinct name number new keeps id v full all apart
              (subst (λ (rows : List Row). IsRenumbered a m (option_map name (find (λ row. id == number row) rows)) id v) is.joined_are told_new);
        }
