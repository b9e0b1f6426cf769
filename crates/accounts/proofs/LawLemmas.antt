-- Names and numbers of a table are distinct, no number is too great, and there are not too many rows.
use Rattle.std.proofs.Common.{◌≡◌, ◌⊎◌, ℕ, zero, suc, ◌+◌, ◌-◌, ◌<◌, ◌≤◌, Bool, true, false, cond, List, [], ◌∷◌, ◌++◌, length, map, get_or, refl, sym, ap, ◌∙◌, arith, Option, Some, None, Result, Ok, Err, bytes_eq, nat_eq, subst, inl, inr}
use Rattle.std.specs.Prelude.{◌&&◌, nat_le, nat_lt}
use Rattle.std.specs.List.{list_any, list_all}
use Rattle.std.specs.Char.{digit_value}
use Rattle.std.specs.Str.Parse.{digits_value}
use Rattle.std.proofs.lemmas.Bool.{true≢false, or_parts, eq-eqb, ltb-false, leb-true}
use Rattle.std.proofs.lemmas.List.{append-nil, append_assoc, map_push, get_or_append_left, length-append, length-map}
use Rattle.std.proofs.lemmas.Slice.Eq.{bytes_eq-Decides}
use Rattle.idtext.specs.declared.faults.TextCode.{TextCode}
use Rattle.idtext.specs.declared.faults.TextCode.TheVariants.{NameTwice, SharedNumber}
use Rattle.idtext.specs.declared.faults.TextFault.{TextFault}
use Rattle.idtext.specs.First.{first_fault}
use Rattle.idtext.specs.Numbers.{id_of, numeral}
use Rattle.idtext.specs.Pieces.{lines}
use Rattle.idtext.proofs.FirstLemmas.{none_of_both}
use Rattle.idtext.proofs.OkLemmas.{unless_ok}
use Rattle.accounts.specs.Laws.{AreDistinct, AreIds, IsTable, IsPasswdTable, HaveLawfulGids, IsGroupTable}
use Rattle.idtext.specs.Names.{is_lawful_name}
use Rattle.accounts.specs.Lines.{is_kept}
use Rattle.accounts.specs.Rows.{Passwd, Group, passwd_line, group_line}
use Rattle.accounts.specs.Tables.{row_in, rows_from, shared, shared_fault, fault_in, line_fault, table, passwd_table, group_table}
use Rattle.accounts.proofs.ListLemmas.{list_any-map}
use Rattle.accounts.proofs.RowLemmas.{group-line, user-line}
use Rattle.accounts.proofs.TableLemmas.{rows_from-push}

-- ---- lists without repeats

not_there : {K : Type 0} (test : K → K → Bool) (reflexive : (a : K) → test a a ≡ true) (xs : List K) (x d : K) (i : ℕ) → list_any (test x) xs ≡ false → i < length xs → get_or xs i d ≡ x → ⊥
not_there test reflexive [] x d i none lt e = omega (arith, lt)
not_there test reflexive (y ∷ ys) x d zero none lt e =
    true≢false (sym (reflexive x) ∙ ap (test x) (sym e) ∙ (or_parts (test x y) (list_any (test x) ys) none).0)
not_there test reflexive (y ∷ ys) x d (suc i) none lt e = not_there test reflexive ys x d i (or_parts (test x y) (list_any (test x) ys) none).1 (omega arith) e

at_last : {K : Type 0} (xs : List K) (x d : K) → get_or (xs ++ x ∷ []) (length xs) d ≡ x
at_last [] x d = refl
at_last (y ∷ ys) x d = at_last ys x d

before_last : (n i : ℕ) → i < n + 1 → (i < n) ⊎ (i ≡ n)
before_last zero zero lt = inr refl
before_last zero (suc i) lt = absurd (omega (arith, lt))
before_last (suc n) zero lt = inl (omega arith)
before_last (suc n) (suc i) lt = further (before_last n i (omega arith))
  where
    further : (i < n) ⊎ (i ≡ n) → (suc i < suc n) ⊎ (suc i ≡ suc n)
    further (inl l) = inl (omega arith)
    further (inr e) = inr (ap suc e)

pub distinct-push : {K : Type 0} (test : K → K → Bool) (reflexive : (a : K) → test a a ≡ true) (xs : List K) (x : K) → list_any (test x) xs ≡ false → AreDistinct xs → AreDistinct (xs ++ x ∷ [])
distinct-push {K} test reflexive xs x none apart = λ i j d hi hj e.
    by i j d e (before_last (length xs) i (omega (arith, hi, length-append xs (x ∷ [])))) (before_last (length xs) j (omega (arith, hj, length-append xs (x ∷ []))))
  where
    by : (i j : ℕ) (d : K) → get_or (xs ++ x ∷ []) i d ≡ get_or (xs ++ x ∷ []) j d → (i < length xs) ⊎ (i ≡ length xs) → (j < length xs) ⊎ (j ≡ length xs) → i ≡ j
    by i j d e (inl a) (inl b) = apart i j d a b (sym (get_or_append_left xs (x ∷ []) d i a) ∙ e ∙ get_or_append_left xs (x ∷ []) d j b)
    by i j d e (inl a) (inr b) = absurd (not_there test reflexive xs x d i none a (sym (get_or_append_left xs (x ∷ []) d i a) ∙ e ∙ ap (λ k. get_or (xs ++ x ∷ []) k d) b ∙ at_last xs x d))
    by i j d e (inr a) (inl b) = absurd (not_there test reflexive xs x d j none b (sym (get_or_append_left xs (x ∷ []) d j b) ∙ sym e ∙ ap (λ k. get_or (xs ++ x ∷ []) k d) a ∙ at_last xs x d))
    by i j d e (inr a) (inr b) = a ∙ sym b

bytes_refl : (a : List ℕ) → bytes_eq a a ≡ true
bytes_refl a = (bytes_eq-Decides a a).1 refl

number_refl : (n : ℕ) → nat_eq n n ≡ true
number_refl n = eq-eqb n n refl

-- ---- tables

module _ {Row : Type 0} (line_of : ℕ → List ℕ → Result (Option Row) TextFault) (name : Row → List ℕ) (number : Row → ℕ) (line_lawful : (n : ℕ) (line : List ℕ) (row : Row) → line_of n line ≡ Ok (Some row) → (n ≤ 65536) × (is_lawful_name (name row) ≡ true) × (number row ≤ 4294967294)) where
  few_rows : (n : ℕ) (ls : List (List ℕ)) → length (rows_from line_of name number n ls) ≤ 65537 - n
  unfolding rows_from
  few_rows n [] = omega arith
  few_rows n (line ∷ more) = by (line_of n line) refl (few_rows (n + 1) more)
    where
      by : (told : Result (Option Row) TextFault) → line_of n line ≡ told → length (rows_from line_of name number (n + 1) more) ≤ 65537 - (n + 1) → length (row_in line_of name number told ++ rows_from line_of name number (n + 1) more) ≤ 65537 - n
      by (Err fault) e later = omega (arith, later)
      by (Ok None) e later = omega (arith, later)
      by (Ok (Some row)) e later = omega (arith, later, (line_lawful n line row e).0)

  all_named : (n : ℕ) (ls : List (List ℕ)) → list_all is_lawful_name (map name (rows_from line_of name number n ls)) ≡ true
  unfolding rows_from
  all_named n [] = refl
  all_named n (line ∷ more) = by (line_of n line) refl (all_named (n + 1) more)
    where
      by : (told : Result (Option Row) TextFault) → line_of n line ≡ told → list_all is_lawful_name (map name (rows_from line_of name number (n + 1) more)) ≡ true → list_all is_lawful_name (map name (row_in line_of name number told ++ rows_from line_of name number (n + 1) more)) ≡ true
      by (Err fault) e later = later
      by (Ok None) e later = later
      by (Ok (Some row)) e later = ap (λ b. b && list_all is_lawful_name (map name (rows_from line_of name number (n + 1) more))) (line_lawful n line row e).1 ∙ later

  -- a number that is an id in the row of each line is one in each row
  ids_from : (of : Row → ℕ) → ((n : ℕ) (line : List ℕ) (row : Row) → line_of n line ≡ Ok (Some row) → of row ≤ 4294967294) → (n : ℕ) (ls : List (List ℕ)) → AreIds (map of (rows_from line_of name number n ls))
  unfolding rows_from
  ids_from of small n [] = λ i lt. omega arith
  ids_from of small n (line ∷ more) = by (line_of n line) refl (ids_from of small (n + 1) more)
    where
      by : (told : Result (Option Row) TextFault) → line_of n line ≡ told → AreIds (map of (rows_from line_of name number (n + 1) more)) → AreIds (map of (row_in line_of name number told ++ rows_from line_of name number (n + 1) more))
      by (Err fault) e later = later
      by (Ok None) e later = later
      by (Ok (Some row)) e later = first_or_later (small n line row e)
        where
          first_or_later : of row ≤ 4294967294 → (i : ℕ) → i < suc (length (map of (rows_from line_of name number (n + 1) more))) → get_or (of row ∷ map of (rows_from line_of name number (n + 1) more)) i 0 ≤ 4294967294
          first_or_later le zero lt = le
          first_or_later le (suc i) lt = later i (omega arith)

  pub record Apart (rows : List Row) : Type 0 where
    pub names : AreDistinct (map name rows)
    pub numbers : AreDistinct (map number rows)

  push_row : (rows : List Row) (row : Row) → shared line_of name number rows row ≡ None → Apart rows → Apart (rows ++ row ∷ [])
  push_row rows row none apart =
      by (list_any (λ r. bytes_eq (name row) (name r)) rows) (list_any (λ r. nat_eq (number row) (number r)) rows) refl refl none
    where
      by : (a b : Bool) → list_any (λ r. bytes_eq (name row) (name r)) rows ≡ a → list_any (λ r. nat_eq (number row) (number r)) rows ≡ b → cond a (Some NameTwice) (cond b (Some SharedNumber) None) ≡ None → Apart (rows ++ row ∷ [])
      by true b ea eb e = absurd (cc)
      by false true ea eb e = absurd (cc)
      by false false ea eb e = record {
        names = subst (λ (ks : List (List ℕ)). AreDistinct ks) (sym (map_push name rows row)) (distinct-push bytes_eq bytes_refl (map name rows) (name row) (list_any-map (bytes_eq (name row)) name rows ∙ ea) apart.names);
        numbers = subst (λ (ks : List ℕ). AreDistinct ks) (sym (map_push number rows row)) (distinct-push nat_eq number_refl (map number rows) (number row) (list_any-map (nat_eq (number row)) number rows ∙ eb) apart.numbers);
      }

  one_line : (rows : List Row) (n : ℕ) (told : Result (Option Row) TextFault) → fault_in line_of name number rows n told ≡ None → Apart rows → Apart (rows ++ row_in line_of name number told)
  one_line rows n (Err fault) e apart = absurd (cc)
  one_line rows n (Ok None) e apart = subst (λ (rs : List Row). Apart rs) (sym (append-nil rows)) apart
  one_line rows n (Ok (Some row)) e apart = push_row rows row (no_code (shared line_of name number rows row) e) apart
    where
      no_code : (code : Option TextCode) → shared_fault line_of name number n code ≡ None → code ≡ None
      no_code None e = refl
      no_code (Some code) e = cc

  all_lines : (before more : List (List ℕ)) → Apart (rows_from line_of name number 1 before) → first_fault (line_fault line_of name number) before more ≡ None → Apart (rows_from line_of name number 1 (before ++ more))
  unfolding first_fault line_fault
  all_lines before [] apart e = subst (λ (ls : List (List ℕ)). Apart (rows_from line_of name number 1 ls)) (sym (append-nil before)) apart
  all_lines before (line ∷ more) apart e =
      let both = none_of_both (line_fault line_of name number before line) (first_fault (line_fault line_of name number) (before ++ line ∷ []) more) e in
      let one = one_line (rows_from line_of name number 1 before) (length before + 1) (line_of (length before + 1) line) both.0 apart in
      let next = subst (λ (rs : List Row). Apart rs) (sym (rows_from-push line_of name number 1 before line)) one in
      subst (λ (ls : List (List ℕ)). Apart (rows_from line_of name number 1 ls)) (append_assoc before (line ∷ []) more) (all_lines (before ++ line ∷ []) more next both.1)

  none_at_first : Apart (rows_from line_of name number 1 [])
  unfolding rows_from
  none_at_first = record { names = λ i j d hi hj e. absurd (omega (arith, hi)); numbers = λ i j d hi hj e. absurd (omega (arith, hi)) }

  pub table-law : (text : List ℕ) (rows : List Row) → table line_of name number text ≡ Ok rows → IsTable (map name rows) (map number rows)
  table-law text rows e =
      let told = unless_ok (first_fault (line_fault line_of name number) [] (lines text)) (rows_from line_of name number 1 (lines text)) rows e in
      let apart = all_lines [] (lines text) none_at_first told.0 in
      let law : IsTable (map name (rows_from line_of name number 1 (lines text))) (map number (rows_from line_of name number 1 (lines text))) = record {
        names_differ = apart.names;
        numbers_differ = apart.numbers;
        lawful = all_named 1 (lines text);
        ids = ids_from number (λ n line row is. (line_lawful n line row is).2) 1 (lines text);
        few = omega (arith, few_rows 1 (lines text), length-map (rows_from line_of name number 1 (lines text)) number);
      } in
      subst (λ (rs : List Row). IsTable (map name rs) (map number rs)) told.1 law

  pub ids-law : (of : Row → ℕ) → ((n : ℕ) (line : List ℕ) (row : Row) → line_of n line ≡ Ok (Some row) → of row ≤ 4294967294) → (text : List ℕ) (rows : List Row) → table line_of name number text ≡ Ok rows → AreIds (map of rows)
  ids-law of small text rows e =
      let told = unless_ok (first_fault (line_fault line_of name number) [] (lines text)) (rows_from line_of name number 1 (lines text)) rows e in
      subst (λ (rs : List Row). AreIds (map of rs)) told.1 (ids_from of small 1 (lines text))

-- ---- the rows of lines

pub id-small : (text : List ℕ) (id : ℕ) → id_of text ≡ Some id → id ≤ 4294967294
unfolding numeral
id-small [] id e = absurd (cc)
id-small (c ∷ cs) id e = by (list_all (λ d. nat_lt (digit_value d) 10) (c ∷ cs)) (nat_le (digits_value 10 (c ∷ cs)) 4294967294) refl e
  where
    by : (a b : Bool) → nat_le (digits_value 10 (c ∷ cs)) 4294967294 ≡ b → cond (a && b) (Some (digits_value 10 (c ∷ cs))) None ≡ Some id → id ≤ 4294967294
    by true true le e = small (cc)
      where
        small : digits_value 10 (c ∷ cs) ≡ id → id ≤ 4294967294
        small is = omega (arith, is, leb-true _ _ le)
    by true false le e = absurd (cc)
    by false b le e = absurd (cc)

kept-few : (n : ℕ) (line : List ℕ) (kept : Bool) → is_kept n line ≡ Ok kept → n ≤ 65536
kept-few n line kept e = ltb-false 65536 n (not_refused (nat_lt 65536 n) _ _ e)
  where
    not_refused : {X : Type 0} (a : Bool) (fault : TextFault) (told : Result X TextFault) {x : X} → cond a (Err fault) told ≡ Ok x → a ≡ false
    not_refused true fault told e = absurd (cc)
    not_refused false fault told e = refl

pub passwd_line-lawful : (n : ℕ) (line : List ℕ) (row : Passwd) → passwd_line n line ≡ Ok (Some row) → (n ≤ 65536) × (is_lawful_name row.name ≡ true) × (row.uid ≤ 4294967294) × (row.gid ≤ 4294967294)
passwd_line-lawful n line row e =
    let (kept, told, user) = user-line n line row e in
    (kept-few n line kept told, user.lawful, id-small user.uid row.uid user.user, id-small user.gid row.gid user.group)

group_line-lawful : (n : ℕ) (line : List ℕ) (row : Group) → group_line n line ≡ Ok (Some row) → (n ≤ 65536) × (is_lawful_name row.name ≡ true) × (row.gid ≤ 4294967294)
group_line-lawful n line row e =
    let (kept, told, group) = group-line n line row e in
    (kept-few n line kept told, group.lawful, id-small group.gid row.gid group.group)

-- ---- the laws

passwd_row-lawful : (n : ℕ) (line : List ℕ) (row : Passwd) → passwd_line n line ≡ Ok (Some row) → (n ≤ 65536) × (is_lawful_name row.name ≡ true) × (row.uid ≤ 4294967294)
passwd_row-lawful n line row e = let told = passwd_line-lawful n line row e in (told.0, told.1, told.2)

pub passwd-law : (text : List ℕ) (rows : List Passwd) → passwd_table text ≡ Ok rows → IsPasswdTable rows
unfolding passwd_table
passwd-law text rows e = table-law passwd_line (λ row. row.name) (λ row. row.uid) passwd_row-lawful text rows e

pub primary_groups-law : (text : List ℕ) (rows : List Passwd) → passwd_table text ≡ Ok rows → HaveLawfulGids rows
unfolding passwd_table
primary_groups-law text rows e =
    ids-law passwd_line (λ row. row.name) (λ row. row.uid) passwd_row-lawful (λ row. row.gid) (λ n line row is. (passwd_line-lawful n line row is).3) text rows e

pub group-law : (text : List ℕ) (rows : List Group) → group_table text ≡ Ok rows → IsGroupTable rows
unfolding group_table
group-law text rows e = table-law group_line (λ row. row.name) (λ row. row.gid) group_line-lawful text rows e
