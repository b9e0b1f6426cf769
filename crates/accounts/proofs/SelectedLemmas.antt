-- Some rows of a table are a table.
use Rattle.std.proofs.Common.{◌≡◌, ◌⊎◌, inl, inr, ℕ, zero, suc, ◌<◌, ◌≤◌, Bool, true, false, List, [], ◌∷◌, ◌++◌, length, map, get_or, refl, sym, ap, ◌∙◌, subst, arith, Option, None, Result}
use Rattle.std.specs.List.{list_all}
use Rattle.std.specs.Prelude.{◌&&◌, ◌≢◌}
use Rattle.std.proofs.lemmas.Bool.{and_parts}
use Rattle.std.proofs.lemmas.List.{append-nil, length-map}
use Rattle.idtext.specs.declared.faults.TextFault.{TextFault}
use Rattle.accounts.specs.Laws.{AreDistinct, AreIds, IsTable, IsPasswdTable, IsGroupTable, HaveLawfulGids}
use Rattle.accounts.specs.Rows.{Passwd, Group}
use Rattle.accounts.specs.Selected.{those}
use Rattle.accounts.specs.Tables.{shared}
use Rattle.accounts.proofs.AcceptedLemmas.{shares_nothing}

-- what stands at a place of those rows stands at some place of all rows
at_place : {Row K : Type 0} (of : Row → K) (flags : List Bool) (rows : List Row) (i : ℕ) (d : K) → i < length (map of (those flags rows)) → (j : ℕ) × (j < length (map of rows)) × (get_or (map of rows) j d ≡ get_or (map of (those flags rows)) i d)
at_place of flags [] i d lt = absurd (omega arith)
at_place of [] (row ∷ rows) i d lt = absurd (omega arith)
at_place of (false ∷ flags) (row ∷ rows) i d lt =
    let there = at_place of flags rows i d lt in
    (suc there.0, omega (arith, there.1), there.2)
at_place of (true ∷ flags) (row ∷ rows) zero d lt = (zero, omega arith, refl)
at_place of (true ∷ flags) (row ∷ rows) (suc i) d lt =
    let there = at_place of flags rows i d (omega arith) in
    (suc there.0, omega (arith, there.1), there.2)

rest-apart : {K : Type 0} (x : K) (xs : List K) → AreDistinct (x ∷ xs) → AreDistinct xs
rest-apart x xs apart = λ i j d hi hj e.
    let same : suc i ≡ suc j = apart (suc i) (suc j) d (omega arith) (omega arith) e in
    omega (arith, same)

head-apart : {K : Type 0} (x : K) (xs : List K) (j : ℕ) (d : K) → AreDistinct (x ∷ xs) → j < length xs → get_or xs j d ≢ x
head-apart x xs j d apart lt e =
    let same : suc j ≡ zero = apart (suc j) zero d (omega arith) (omega arith) e in
    omega (arith, same)

apart-cons : {K : Type 0} (x : K) (xs : List K) → ((j : ℕ) (d : K) → j < length xs → get_or xs j d ≢ x) → AreDistinct xs → AreDistinct (x ∷ xs)
apart-cons {K} x xs new apart = by
  where
    by : (i j : ℕ) (d : K) → i < length (x ∷ xs) → j < length (x ∷ xs) → get_or (x ∷ xs) i d ≡ get_or (x ∷ xs) j d → i ≡ j
    by zero zero d hi hj e = refl
    by zero (suc j) d hi hj e = absurd (new j d (omega arith) (sym e))
    by (suc i) zero d hi hj e = absurd (new i d (omega arith) e)
    by (suc i) (suc j) d hi hj e = ap suc (apart i j d (omega arith) (omega arith) e)

those-apart : {Row K : Type 0} (of : Row → K) (flags : List Bool) (rows : List Row) → AreDistinct (map of rows) → AreDistinct (map of (those flags rows))
those-apart of flags [] apart = λ i j d hi hj e. absurd (omega (arith, hi))
those-apart of [] (row ∷ rows) apart = λ i j d hi hj e. absurd (omega (arith, hi))
those-apart of (false ∷ flags) (row ∷ rows) apart = those-apart of flags rows (rest-apart (of row) (map of rows) apart)
those-apart of (true ∷ flags) (row ∷ rows) apart =
    apart-cons (of row) (map of (those flags rows))
    (λ j d lt e.
    let there = at_place of flags rows j d lt in
    head-apart (of row) (map of rows) there.0 d apart there.1 (there.2 ∙ e))
    (those-apart of flags rows (rest-apart (of row) (map of rows) apart))

those-all : {Row K : Type 0} (of : Row → K) (test : K → Bool) (flags : List Bool) (rows : List Row) → list_all test (map of rows) ≡ true → list_all test (map of (those flags rows)) ≡ true
those-all of test flags [] all = refl
those-all of test [] (row ∷ rows) all = refl
those-all of test (false ∷ flags) (row ∷ rows) all = those-all of test flags rows (and_parts (test (of row)) (list_all test (map of rows)) all).1
those-all of test (true ∷ flags) (row ∷ rows) all =
    let both = and_parts (test (of row)) (list_all test (map of rows)) all in
    ap (λ b. b && list_all test (map of (those flags rows))) both.0 ∙ those-all of test flags rows both.1

pub those-ids : {Row : Type 0} (of : Row → ℕ) (flags : List Bool) (rows : List Row) → AreIds (map of rows) → AreIds (map of (those flags rows))
those-ids of flags rows ids = λ i lt.
    let there = at_place of flags rows i 0 lt in
    omega (arith, ids there.0 there.1, there.2)

length-those : {Row : Type 0} (flags : List Bool) (rows : List Row) → length (those flags rows) ≤ length rows
length-those flags [] = omega arith
length-those [] (row ∷ rows) = omega arith
length-those (false ∷ flags) (row ∷ rows) = omega (arith, length-those flags rows)
length-those (true ∷ flags) (row ∷ rows) = omega (arith, length-those flags rows)

-- some rows of a table are a table
pub those-table : {Row : Type 0} (name : Row → List ℕ) (number : Row → ℕ) (flags : List Bool) (rows : List Row) → IsTable (map name rows) (map number rows) → IsTable (map name (those flags rows)) (map number (those flags rows))
those-table name number flags rows table = record {
  names_differ = those-apart name flags rows table.names_differ;
  numbers_differ = those-apart number flags rows table.numbers_differ;
  lawful = those-all name _ flags rows table.lawful;
  ids = those-ids number flags rows table.ids;
  few = omega (arith, table.few, length-those flags rows, length-map rows number, length-map (those flags rows) number);
}

those-taken : {Row : Type 0} (flags more : List Bool) (flag : Bool) (rows others : List Row) (row : Row) → flags ≡ flag ∷ more → rows ≡ row ∷ others → flag ≡ true → those flags rows ≡ row ∷ those more others
those-taken flags more flag rows others row flags_are rows_are set =
    ap (λ fs. those fs rows) flags_are ∙ ap (those (flag ∷ more)) rows_are ∙ ap (λ b. those (b ∷ more) (row ∷ others)) set

-- a row that is taken next shares nothing with those that were taken
pub taken-new : {Row : Type 0} (line_of : ℕ → List ℕ → Result (Option Row) TextFault) (name : Row → List ℕ) (number : Row → ℕ) (flags ahead more : List Bool) (flag : Bool) (rows left others items : List Row) (row copy : Row) → IsTable (map name rows) (map number rows) → items ++ those ahead left ≡ those flags rows → ahead ≡ flag ∷ more → left ≡ row ∷ others → flag ≡ true → copy ≡ row → shared line_of name number items copy ≡ None
taken-new {Row} line_of name number flags ahead more flag rows left others items row copy table all ahead_is left_is set same =
    let here = those-table name number flags rows table in
    let parts : those flags rows ≡ items ++ copy ∷ those more others =
    sym all ∙ ap (λ rest. items ++ rest) (those-taken ahead more flag left others row ahead_is left_is set ∙ ap (λ r. r ∷ those more others) (sym same)) in
    shares_nothing line_of name number items copy (those more others)
    (subst (λ (rs : List Row). AreDistinct (map name rs)) parts here.names_differ)
    (subst (λ (rs : List Row). AreDistinct (map number rs)) parts here.numbers_differ)

-- nothing is left to take
those-end : {Row : Type 0} (flags : List Bool) (rows : List Row) → (rows ≡ []) ⊎ (flags ≡ []) → those flags rows ≡ []
those-end flags rows (inl none) = ap (those flags) none
those-end flags [] (inr none) = refl
those-end flags (row ∷ rows) (inr none) = ap (λ fs. those fs (row ∷ rows)) none

pub taken-all : {Row : Type 0} (ahead : List Bool) (items left all : List Row) → items ++ those ahead left ≡ all → (left ≡ []) ⊎ (ahead ≡ []) → items ≡ all
taken-all ahead items left all e end =
    sym (append-nil items) ∙ ap (λ rest. items ++ rest) (sym (those-end ahead left end)) ∙ e

-- ---- what was selected from a table; seen are its rows

pub passwd-selected : (flags : List Bool) (rows seen selected : List Passwd) → seen ≡ rows → selected ≡ those flags seen → IsPasswdTable rows → IsPasswdTable selected
passwd-selected flags rows seen selected seen_is selected_is table =
    subst (λ (rs : List Passwd). IsPasswdTable rs) (ap (those flags) (sym seen_is) ∙ sym selected_is)
    (those-table (λ (row : Passwd). row.name) (λ (row : Passwd). row.uid) flags rows table)

pub gids-selected : (flags : List Bool) (rows seen selected : List Passwd) → seen ≡ rows → selected ≡ those flags seen → HaveLawfulGids rows → HaveLawfulGids selected
gids-selected flags rows seen selected seen_is selected_is gids =
    subst (λ (rs : List Passwd). HaveLawfulGids rs) (ap (those flags) (sym seen_is) ∙ sym selected_is)
    (those-ids (λ (row : Passwd). row.gid) flags rows gids)

pub group-selected : (flags : List Bool) (rows seen selected : List Group) → seen ≡ rows → selected ≡ those flags seen → IsGroupTable rows → IsGroupTable selected
group-selected flags rows seen selected seen_is selected_is table =
    subst (λ (rs : List Group). IsGroupTable rs) (ap (those flags) (sym seen_is) ∙ sym selected_is)
    (those-table (λ (row : Group). row.name) (λ (row : Group). row.gid) flags rows table)
