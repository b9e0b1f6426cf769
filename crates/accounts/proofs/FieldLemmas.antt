-- The rows of a table are those of its lines, each with the fields of its line.
use Rattle.std.proofs.Common.{◌≡◌, ℕ, zero, suc, ◌+◌, ◌<◌, ◌≤◌, Bool, true, false, not, cond, List, [], ◌∷◌, ◌++◌, length, get_or, refl, sym, ap, ◌∙◌, arith, subst, Option, Some, None, Result, Ok, Err, is_ok, zero-add}
use Rattle.std.specs.List.{All, AllPairs, Contains}
use Rattle.std.proofs.lemmas.Bool.{true≢false}
use Rattle.std.proofs.lemmas.List.Elements.{All-nil, All-cons}
use Rattle.std.proofs.lemmas.List.Kept.{AllPairs-cons}
use Rattle.std.proofs.lemmas.Option.{same_Some}
use Rattle.idtext.specs.declared.faults.TextCode.TheVariants.{TooManyLines, LineTooLong, CompatLine}
use Rattle.idtext.specs.declared.faults.TextFault.{TextFault}
use Rattle.idtext.specs.Faults.{refused}
use Rattle.idtext.specs.First.{◌>>=◌}
use Rattle.idtext.specs.Names.{is_skipped}
use Rattle.idtext.specs.Pieces.{fields_of, lines as lines_of}
use Rattle.idtext.proofs.OkLemmas.{bind_ok, ok_same}
use Rattle.accounts.specs.Fields.{AreFieldsOf, IsUserOfLine, IsGroupOfLine, StandsAfter, AreOfLines, UserRowsHaveTheirFields, GroupRowsHaveTheirFields}
use Rattle.accounts.specs.Lines.{is_kept}
use Rattle.accounts.specs.Rows.{Passwd, Group, passwd_from, passwd_line, group_from, group_line}
use Rattle.accounts.specs.Tables.{row_in, rows_from}
use Rattle.accounts.proofs.AcceptedLemmas.{passwd_accepted, group_accepted}
use Rattle.accounts.proofs.MemberLemmas.{pieces-lack, pieces-joined}
use Rattle.accounts.proofs.RowLemmas.{is-user, is-group, kept-row}

-- ---- one line

fields-are : (line : List ℕ) (fields : List (List ℕ)) → fields_of line ≡ fields → AreFieldsOf line fields
fields-are line fields e = subst (λ fs. AreFieldsOf line fs) e (record { whole = sym (pieces-joined 58 line); no_colon = pieces-lack 58 line })

-- a line that is not refused has a row exactly where it is not skipped
kept-is : (n : ℕ) (many long skipped compat kept : Bool) → cond many (refused n TooManyLines) (cond long (refused n LineTooLong) (cond skipped (Ok false) (cond compat (refused n CompatLine) (Ok true)))) ≡ Ok kept → skipped ≡ not kept
kept-is n true long skipped compat kept e = absurd (cc)
kept-is n false true skipped compat kept e = absurd (cc)
kept-is n false false true compat kept e = ap not (ok_same false kept e)
kept-is n false false false true kept e = absurd (cc)
kept-is n false false false false kept e = ap not (ok_same true kept e)

keeps : (n : ℕ) (line : List ℕ) (kept : Bool) → is_kept n line ≡ Ok kept → is_skipped line ≡ not kept
keeps n line kept e = kept-is n _ _ (is_skipped line) _ kept e

module _ {Row : Type 0} (told : Result Row TextFault) where
  with-row : (kept : Bool) (row : Row) → cond kept (told >>= λ r. Ok (Some r)) (Ok None) ≡ Ok (Some row) → kept ≡ true
  with-row true row e = refl
  with-row false row e = absurd (cc)

  without-row : (kept : Bool) → cond kept (told >>= λ r. Ok (Some r)) (Ok None) ≡ Ok None → kept ≡ false
  without-row true e = absurd (some-row told e)
    where
      some-row : (told : Result Row TextFault) → (told >>= λ r. Ok (Some r)) ≡ Ok None → ⊥
      some-row (Ok r) e = cc
      some-row (Err fault) e = cc
  without-row false e = refl

-- the row of a line
abbrev HasRow : {Row : Type 0} → (ℕ → List ℕ → Row → Type 0) → ℕ → List ℕ → Row → Type 0
HasRow Is n line row = (is_skipped line ≡ false) × Is n line row

user-of : (n : ℕ) (line : List ℕ) (row : Passwd) → passwd_line n line ≡ Ok (Some row) → HasRow IsUserOfLine n line row
unfolding passwd_line
user-of n line row e =
    let kept = bind_ok (is_kept n line) _ (Some row) e in
    let is = is-user n (fields_of line) row (kept-row kept.0 (passwd_from n (fields_of line)) row kept.2) in (
      keeps n line kept.0 kept.1 ∙ ap not (with-row (passwd_from n (fields_of line)) kept.0 row kept.2),
      record { uid_text = is.uid; gid_text = is.gid; fields = fields-are line _ is.are; uid = is.user; gid = is.group; numbered = is.line },
    )

no-user : (n : ℕ) (line : List ℕ) → passwd_line n line ≡ Ok None → is_skipped line ≡ true
unfolding passwd_line
no-user n line e =
    let kept = bind_ok (is_kept n line) _ None e in
    keeps n line kept.0 kept.1 ∙ ap not (without-row (passwd_from n (fields_of line)) kept.0 kept.2)

group-of : (n : ℕ) (line : List ℕ) (row : Group) → group_line n line ≡ Ok (Some row) → HasRow IsGroupOfLine n line row
unfolding group_line
group-of n line row e =
    let kept = bind_ok (is_kept n line) _ (Some row) e in
    let is = is-group n (fields_of line) row (kept-row kept.0 (group_from n (fields_of line)) row kept.2) in (
      keeps n line kept.0 kept.1 ∙ ap not (with-row (group_from n (fields_of line)) kept.0 row kept.2),
      record { gid_text = is.gid; fields = fields-are line _ is.are; gid = is.group; numbered = is.line },
    )

no-group : (n : ℕ) (line : List ℕ) → group_line n line ≡ Ok None → is_skipped line ≡ true
unfolding group_line
no-group n line e =
    let kept = bind_ok (is_kept n line) _ None e in
    keeps n line kept.0 kept.1 ∙ ap not (without-row (group_from n (fields_of line)) kept.0 kept.2)

-- ---- all lines

module _ {Row : Type 0} (line_of : ℕ → List ℕ → Result (Option Row) TextFault) (name : Row → List ℕ) (number : Row → ℕ) (Is : ℕ → List ℕ → Row → Type 0) (at : Row → ℕ)
    (some : (n : ℕ) (line : List ℕ) (row : Row) → line_of n line ≡ Ok (Some row) → HasRow Is n line row) (none : (n : ℕ) (line : List ℕ) → line_of n line ≡ Ok None → is_skipped line ≡ true) (numbered : (n : ℕ) (line : List ℕ) (row : Row) → Is n line row → at row ≡ n) where
  -- the same as `AreOfLines`, where the first line has number n
  record AreFrom (n : ℕ) (ls : List (List ℕ)) (rows : List Row) : Type 0 where
    pub each_row : (row : Row) → Contains rows row → (i : ℕ) × (line : List ℕ) × StandsAfter ls i line × Is (i + n) line row
    pub each_line : (i : ℕ) (line : List ℕ) → StandsAfter ls i line → (row : Row) × Contains rows row × Is (i + n) line row
    pub in_order : AllPairs (λ one later. at one < at later) rows
    pub from : All (λ row. n ≤ at row) rows

  one-on : (i n : ℕ) → i + (n + 1) ≡ suc i + n
  one-on i n = omega arith

  at_first : (n : ℕ) (line : List ℕ) (row : Row) → Is n line row → Is (0 + n) line row
  at_first n line row is = subst (λ k. Is k line row) (sym (zero-add n)) is

  moved : (i n : ℕ) (line : List ℕ) (row : Row) → Is (i + (n + 1)) line row → Is (suc i + n) line row
  moved i n line row is = subst (λ k. Is k line row) (one-on i n) is

  weaker : (n : ℕ) (rows : List Row) → All (λ row. n + 1 ≤ at row) rows → All (λ row. n ≤ at row) rows
  weaker n rows all k d lt = let le = all k d lt in omega (arith, le)

  skipped-first : (n : ℕ) (line : List ℕ) (more : List (List ℕ)) (rows : List Row) → is_skipped line ≡ true → AreFrom (n + 1) more rows → AreFrom n (line ∷ more) rows
  skipped-first n line more rows skipped later = record {
    each_row = λ row has. let found = later.each_row row has in (suc found.0, found.1, found.2, moved found.0 n found.1 row found.3);
    each_line = each;
    in_order = later.in_order;
    from = weaker n rows later.from;
  }
    where
      each : (i : ℕ) (l : List ℕ) → StandsAfter (line ∷ more) i l → (row : Row) × Contains rows row × Is (i + n) l row
      each zero l stands = absurd (true≢false (sym skipped ∙ ap is_skipped (same_Some line l stands.0) ∙ stands.1))
      each (suc i) l stands = let found = later.each_line i l stands in (found.0, found.1, moved i n l found.0 found.2)

  row-first : (n : ℕ) (line : List ℕ) (more : List (List ℕ)) (row : Row) (rows : List Row) → HasRow Is n line row → AreFrom (n + 1) more rows → AreFrom n (line ∷ more) (row ∷ rows)
  row-first n line more row rows has later = record {
    each_row = each-row;
    each_line = each-line;
    in_order = AllPairs-cons (λ one later. at one < at later) row rows (λ k d lt. let le = later.from k d lt in omega (arith, le, numbered n line row has.1)) later.in_order;
    from = All-cons (λ r. n ≤ at r) row rows (omega (arith, numbered n line row has.1)) (weaker n rows later.from);
  }
    where
      each-row : (r : Row) → Contains (row ∷ rows) r → (i : ℕ) × (l : List ℕ) × StandsAfter (line ∷ more) i l × Is (i + n) l r
      each-row r (zero, lt, e) = (zero, line, (refl, has.0), at_first n line r (subst (λ q. Is n line q) e has.1))
      each-row r (suc k, lt, e) = let found = later.each_row r (k, omega (arith, lt), e) in (suc found.0, found.1, found.2, moved found.0 n found.1 r found.3)

      each-line : (i : ℕ) (l : List ℕ) → StandsAfter (line ∷ more) i l → (r : Row) × Contains (row ∷ rows) r × Is (i + n) l r
      each-line zero l stands = (row, (zero, omega arith, refl), at_first n l row (subst (λ q. Is n q row) (same_Some line l stands.0) has.1))
      each-line (suc i) l stands =
          let found = later.each_line i l stands in
          let place = found.1 in
          (found.0, (suc place.0, omega (arith, place.1), place.2), moved i n l found.0 found.2)

  abbrev Passes : ℕ → List (List ℕ) → Type 0
  Passes n ls = (i : ℕ) → i < length ls → is_ok (line_of (i + n) (get_or ls i [])) ≡ true

  passes-on : (n : ℕ) (line : List ℕ) (more : List (List ℕ)) → Passes n (line ∷ more) → Passes (n + 1) more
  passes-on n line more pass i lt = ap (λ k. is_ok (line_of k (get_or more i []))) (one-on i n) ∙ pass (suc i) (omega (arith, lt))

  from-lines : (n : ℕ) (ls : List (List ℕ)) → Passes n ls → AreFrom n ls (rows_from line_of name number n ls)
  unfolding rows_from
  from-lines n [] pass = record {
    each_row = λ row has. absurd (omega (arith, has.1));
    each_line = λ i line stands. absurd (cc);
    in_order = λ i j d lt within. omega (arith, within);
    from = All-nil (λ row. n ≤ at row);
  }
  from-lines n (line ∷ more) pass = by (line_of n line) refl (ap (λ k. is_ok (line_of k line)) (sym (zero-add n)) ∙ pass 0 (omega arith)) (from-lines (n + 1) more (passes-on n line more pass))
    where
      by : (told : Result (Option Row) TextFault) → line_of n line ≡ told → is_ok told ≡ true → AreFrom (n + 1) more (rows_from line_of name number (n + 1) more) → AreFrom n (line ∷ more) (row_in line_of name number told ++ rows_from line_of name number (n + 1) more)
      by (Err fault) e ok later = absurd (cc)
      by (Ok None) e ok later = skipped-first n line more _ (none n line e) later
      by (Ok (Some row)) e ok later = row-first n line more row _ (some n line row e) later

  of-lines : (ls : List (List ℕ)) (rows : List Row) → rows ≡ rows_from line_of name number 1 ls → Passes 1 ls → AreOfLines Is at ls rows
  of-lines ls rows e pass =
      let all = from-lines 1 ls pass in
      subst (λ rs. AreOfLines Is at ls rs) (sym e) (record { each_row = all.each_row; each_line = all.each_line; in_order = all.in_order })

pub user_fields : UserRowsHaveTheirFields
user_fields text rows e =
    let accepted = (passwd_accepted text rows).0 e in
    of-lines passwd_line (λ row. row.name) (λ row. row.uid) IsUserOfLine (λ row. row.line) user-of no-user (λ n line row is. is.numbered) (lines_of text) rows accepted.rows_are accepted.lines_pass

pub group_fields : GroupRowsHaveTheirFields
group_fields text rows e =
    let accepted = (group_accepted text rows).0 e in
    of-lines group_line (λ row. row.name) (λ row. row.gid) IsGroupOfLine (λ row. row.line) group-of no-group (λ n line row is. is.numbered) (lines_of text) rows accepted.rows_are accepted.lines_pass
