-- A text has a table exactly where each line passes by itself, names are distinct and numbers are.
use Rattle.std.proofs.Common.{◌≡◌, ℕ, zero, suc, ◌+◌, ◌<◌, Bool, true, false, cond, List, [], ◌∷◌, ◌++◌, length, map, get_or, refl, sym, ap, ◌∙◌, arith, Option, Some, None, Result, Ok, Err, bytes_eq, nat_eq, subst, is_ok, zero-add}
use Rattle.std.specs.Prelude.{◌||◌, ◌↔◌}
use Rattle.std.specs.List.{list_any}
use Rattle.std.proofs.Math.Seq.{get_or-append_seam}
use Rattle.std.proofs.lemmas.Bool.{eqb-true}
use Rattle.std.proofs.lemmas.List.{append_assoc, get_or_append_left, length-append, map-append}
use Rattle.std.proofs.lemmas.Slice.Eq.{bytes_eq-Decides}
use Rattle.idtext.specs.declared.faults.TextCode.TheVariants.{NameTwice, SharedNumber}
use Rattle.idtext.specs.declared.faults.TextFault.{TextFault}
use Rattle.idtext.specs.First.{or_else, first_fault, unless}
use Rattle.idtext.specs.Pieces.{lines}
use Rattle.idtext.proofs.FirstLemmas.{none_of_both}
use Rattle.idtext.proofs.OkLemmas.{unless_ok}
use Rattle.accounts.specs.Accepted.{EachPasses, IsAccepted, PasswdIsAccepted, GroupIsAccepted}
use Rattle.accounts.specs.Laws.{AreDistinct, IsTable}
use Rattle.accounts.specs.Rows.{passwd_line, group_line}
use Rattle.accounts.specs.Tables.{row_in, rows_from, shared, shared_fault, fault_in, line_fault, table, passwd_table, group_table}
use Rattle.accounts.proofs.LawLemmas.{passwd-law, group-law}
use Rattle.accounts.proofs.ListLemmas.{list_any-map}

-- ---- what stands before a place of a list without repeats

among : {K : Type 0} (test : K → K → Bool) → ((a b : K) → test a b ≡ true → a ≡ b) → (x d : K) (xs : List K) → list_any (test x) xs ≡ true → (j : ℕ) × (j < length xs) × (get_or xs j d ≡ x)
among test exact x d [] e = absurd (cc)
among {K} test exact x d (y ∷ ys) e = by (test x y) refl e (λ there. among test exact x d ys there)
  where
    further : (j : ℕ) × (j < length ys) × (get_or ys j d ≡ x) → (j : ℕ) × (j < length (y ∷ ys)) × (get_or (y ∷ ys) j d ≡ x)
    further at = (suc at.0, omega (arith, at.1), at.2)

    by : (b : Bool) → test x y ≡ b → (b || list_any (test x) ys) ≡ true → (list_any (test x) ys ≡ true → (j : ℕ) × (j < length ys) × (get_or ys j d ≡ x)) → (j : ℕ) × (j < length (y ∷ ys)) × (get_or (y ∷ ys) j d ≡ x)
    by true is e later = (zero, omega arith, sym (exact x y is))
    by false is e later = further (later e)

not_before : {K : Type 0} (test : K → K → Bool) → ((a b : K) → test a b ≡ true → a ≡ b) → (xs : List K) (x : K) (ys : List K) → AreDistinct (xs ++ x ∷ ys) → list_any (test x) xs ≡ false
not_before {K} test exact xs x ys apart = by (list_any (test x) xs) refl
  where
    by : (b : Bool) → list_any (test x) xs ≡ b → b ≡ false
    by false is = refl
    by true is =
        let at = among test exact x x xs is in
        let long : length (xs ++ x ∷ ys) ≡ length xs + suc (length ys) = length-append xs (x ∷ ys) in
        let same : at.0 ≡ length xs = apart at.0 (length xs) x (omega (arith, at.1, long)) (omega (arith, long)) (get_or_append_left xs (x ∷ ys) x at.0 at.1 ∙ at.2 ∙ sym (get_or-append_seam xs x ys x)) in
        absurd (omega (arith, same, at.1))

bytes_exact : (a b : List ℕ) → bytes_eq a b ≡ true → a ≡ b
bytes_exact a b e = (bytes_eq-Decides a b).0 e

-- ---- tables

module _ {Row : Type 0} (line_of : ℕ → List ℕ → Result (Option Row) TextFault) (name : Row → List ℕ) (number : Row → ℕ) where
  passed : (rows : List Row) (n : ℕ) (told : Result (Option Row) TextFault) → fault_in line_of name number rows n told ≡ None → is_ok told ≡ true
  passed rows n (Ok row) e = refl
  passed rows n (Err fault) e = absurd (cc)

  -- where no line has a fault each passes by itself
  all_pass : (before more : List (List ℕ)) → first_fault (line_fault line_of name number) before more ≡ None → (i : ℕ) → i < length more → is_ok (line_of (length before + i + 1) (get_or more i [])) ≡ true
  unfolding first_fault line_fault
  all_pass before [] e i lt = absurd (omega (arith, lt))
  all_pass before (line ∷ more) e i lt = by (none_of_both (line_fault line_of name number before line) (first_fault (line_fault line_of name number) (before ++ line ∷ []) more) e) (λ none. all_pass (before ++ line ∷ []) more none) i lt
    where
      by : (line_fault line_of name number before line ≡ None) × (first_fault (line_fault line_of name number) (before ++ line ∷ []) more ≡ None)
          → (first_fault (line_fault line_of name number) (before ++ line ∷ []) more ≡ None → (i : ℕ) → i < length more → is_ok (line_of (length (before ++ line ∷ []) + i + 1) (get_or more i [])) ≡ true)
          → (i : ℕ) → i < length (line ∷ more) → is_ok (line_of (length before + i + 1) (get_or (line ∷ more) i [])) ≡ true
      by both later zero lt =
          let same : length before + 0 + 1 ≡ length before + 1 = omega arith in
          ap (λ n. is_ok (line_of n line)) same ∙ passed (rows_from line_of name number 1 before) (length before + 1) (line_of (length before + 1) line) both.0
      by both later (suc i) lt =
          let same : length before + suc i + 1 ≡ length (before ++ line ∷ []) + i + 1 = omega (arith, length-append before (line ∷ [])) in
          ap (λ n. is_ok (line_of n (get_or more i []))) same ∙ later both.1 i (omega (arith, lt))

  -- the rows of lines and further lines
  rows_from-append : (n : ℕ) (before more : List (List ℕ)) → rows_from line_of name number n (before ++ more) ≡ rows_from line_of name number n before ++ rows_from line_of name number (length before + n) more
  unfolding rows_from
  rows_from-append n [] more = ap (λ k. rows_from line_of name number k more) (sym (zero-add n))
  rows_from-append n (l ∷ before) more =
      let same : length before + (n + 1) ≡ suc (length before) + n = omega arith in
      ap (λ rest. row_in line_of name number (line_of n l) ++ rest)
      (rows_from-append (n + 1) before more ∙ ap (λ k. rows_from line_of name number (n + 1) before ++ rows_from line_of name number k more) same)
      ∙ sym (append_assoc (row_in line_of name number (line_of n l)) (rows_from line_of name number (n + 1) before) (rows_from line_of name number (suc (length before) + n) more))

  rows_from-cons : (n : ℕ) (line : List ℕ) (more : List (List ℕ)) → rows_from line_of name number n (line ∷ more) ≡ row_in line_of name number (line_of n line) ++ rows_from line_of name number (n + 1) more
  unfolding rows_from
  rows_from-cons n line more = refl

  -- a row shares nothing with those before it in a list without repeats
  pub shares_nothing : (rows : List Row) (row : Row) (more : List Row) → AreDistinct (map name (rows ++ row ∷ more)) → AreDistinct (map number (rows ++ row ∷ more)) → shared line_of name number rows row ≡ None
  shares_nothing rows row more names numbers =
      let no_name : list_any (bytes_eq (name row)) (map name rows) ≡ false = not_before bytes_eq bytes_exact (map name rows) (name row) (map name more) (subst (λ (ks : List (List ℕ)). AreDistinct ks) (map-append name rows (row ∷ more)) names) in
      let no_number : list_any (nat_eq (number row)) (map number rows) ≡ false = not_before nat_eq eqb-true (map number rows) (number row) (map number more) (subst (λ (ks : List ℕ). AreDistinct ks) (map-append number rows (row ∷ more)) numbers) in
      ap (λ b. cond b (Some NameTwice) (cond (list_any (λ r. nat_eq (number row) (number r)) rows) (Some SharedNumber) None)) (sym (list_any-map (bytes_eq (name row)) name rows) ∙ no_name)
      ∙ ap (λ b. cond b (Some SharedNumber) None) (sym (list_any-map (nat_eq (number row)) number rows) ∙ no_number)

  -- a line that passes by itself has no fault, where no name and no number of the rows stands twice
  no_fault_at : (before : List (List ℕ)) (line : List ℕ) (more : List (List ℕ)) (told : Result (Option Row) TextFault) → line_of (length before + 1) line ≡ told → is_ok told ≡ true → AreDistinct (map name (rows_from line_of name number 1 (before ++ line ∷ more))) → AreDistinct (map number (rows_from line_of name number 1 (before ++ line ∷ more))) → fault_in line_of name number (rows_from line_of name number 1 before) (length before + 1) told ≡ None
  no_fault_at before line more (Err fault) is ok names numbers = absurd (cc)
  no_fault_at before line more (Ok None) is ok names numbers = refl
  no_fault_at before line more (Ok (Some row)) is ok names numbers =
      let parts : rows_from line_of name number 1 (before ++ line ∷ more) ≡ rows_from line_of name number 1 before ++ row ∷ rows_from line_of name number (length before + 1 + 1) more =
      rows_from-append 1 before (line ∷ more)
      ∙ ap (λ rest. rows_from line_of name number 1 before ++ rest) (rows_from-cons (length before + 1) line more ∙ ap (λ t. row_in line_of name number t ++ rows_from line_of name number (length before + 1 + 1) more) is) in
      ap (shared_fault line_of name number (length before + 1))
      (shares_nothing (rows_from line_of name number 1 before) row (rows_from line_of name number (length before + 1 + 1) more)
      (subst (λ (rs : List Row). AreDistinct (map name rs)) parts names)
      (subst (λ (rs : List Row). AreDistinct (map number rs)) parts numbers))

  no_fault : (all before more : List (List ℕ)) → before ++ more ≡ all → EachPasses line_of name number all → AreDistinct (map name (rows_from line_of name number 1 all)) → AreDistinct (map number (rows_from line_of name number 1 all)) → first_fault (line_fault line_of name number) before more ≡ None
  unfolding first_fault line_fault
  no_fault all before [] e pass names numbers = refl
  no_fault all before (line ∷ more) e pass names numbers =
      let within : length before < length all = omega (arith, ap length e, length-append before (line ∷ more)) in
      let at : get_or all (length before) [] ≡ line = ap (λ ls. get_or ls (length before) []) (sym e) ∙ get_or-append_seam before line more [] in
      let ok : is_ok (line_of (length before + 1) line) ≡ true = ap (λ l. is_ok (line_of (length before + 1) l)) (sym at) ∙ pass (length before) within in
      let here = no_fault_at before line more (line_of (length before + 1) line) refl ok
      (subst (λ (ls : List (List ℕ)). AreDistinct (map name (rows_from line_of name number 1 ls))) (sym e) names)
      (subst (λ (ls : List (List ℕ)). AreDistinct (map number (rows_from line_of name number 1 ls))) (sym e) numbers) in
      ap (λ f. or_else f (first_fault (line_fault line_of name number) (before ++ line ∷ []) more)) here
      ∙ no_fault all (before ++ line ∷ []) more (append_assoc before (line ∷ []) more ∙ e) pass names numbers

  pub accepted-law : ((text : List ℕ) (rows : List Row) → table line_of name number text ≡ Ok rows → IsTable (map name rows) (map number rows)) → (text : List ℕ) (rows : List Row) → (table line_of name number text ≡ Ok rows) ↔ IsAccepted line_of name number text rows
  accepted-law law text rows = (there, back)
    where
      there : table line_of name number text ≡ Ok rows → IsAccepted line_of name number text rows
      there e =
          let told = unless_ok (first_fault (line_fault line_of name number) [] (lines text)) (rows_from line_of name number 1 (lines text)) rows e in
          record {
            rows_are = sym told.1;
            lines_pass = λ i lt. ap (λ n. is_ok (line_of (n + 1) (get_or (lines text) i []))) (sym (zero-add i)) ∙ all_pass [] (lines text) told.0 i lt;
            names_differ = (law text rows e).names_differ;
            numbers_differ = (law text rows e).numbers_differ;
          }

      back : IsAccepted line_of name number text rows → table line_of name number text ≡ Ok rows
      back a =
          ap (λ f. unless f (rows_from line_of name number 1 (lines text)))
          (no_fault (lines text) [] (lines text) refl a.lines_pass
          (subst (λ (rs : List Row). AreDistinct (map name rs)) a.rows_are a.names_differ)
          (subst (λ (rs : List Row). AreDistinct (map number rs)) a.rows_are a.numbers_differ))
          ∙ ap Ok (sym a.rows_are)

pub passwd_accepted : PasswdIsAccepted
unfolding passwd_table
passwd_accepted = accepted-law passwd_line (λ row. row.name) (λ row. row.uid) passwd-law

pub group_accepted : GroupIsAccepted
unfolding group_table
group_accepted = accepted-law group_line (λ row. row.name) (λ row. row.gid) group-law
