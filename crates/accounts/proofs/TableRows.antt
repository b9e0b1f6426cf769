-- What holds of the row of each line holds of each row of a table.
use Rattle.std.proofs.Common.{◌≡◌, ℕ, ◌+◌, List, [], ◌∷◌, ◌++◌, refl, subst, Option, Some, None, Result, Ok, Err}
use Rattle.std.specs.List.{AllByRecursion}
use Rattle.idtext.specs.declared.faults.TextFault.{TextFault}
use Rattle.idtext.specs.First.{first_fault}
use Rattle.idtext.specs.Pieces.{fields_of, lines}
use Rattle.idtext.proofs.OkLemmas.{unless_ok}
use Rattle.accounts.specs.Rows.{Passwd, Group, passwd_line, group_line}
use Rattle.accounts.specs.Tables.{row_in, rows_from, line_fault, table, passwd_table, group_table}
use Rattle.accounts.proofs.RowLemmas.{IsGroup, IsUser, group-line, user-line}

module _ {Row : Type 0} (line_of : ℕ → List ℕ → Result (Option Row) TextFault) (name : Row → List ℕ) (number : Row → ℕ) (Of : List ℕ → Type 0) (Holds : Row → Type 0) (holds : (n : ℕ) (line : List ℕ) (row : Row) → Of line → line_of n line ≡ Ok (Some row) → Holds row) where
  each-from : (n : ℕ) (ls : List (List ℕ)) → AllByRecursion Of ls → AllByRecursion Holds (rows_from line_of name number n ls)
  unfolding rows_from
  each-from n [] all = tt
  each-from n (line ∷ more) all = by (line_of n line) refl (each-from (n + 1) more all.1)
    where
      by : (told : Result (Option Row) TextFault) → line_of n line ≡ told → AllByRecursion Holds (rows_from line_of name number (n + 1) more) → AllByRecursion Holds (row_in line_of name number told ++ rows_from line_of name number (n + 1) more)
      by (Err fault) e later = later
      by (Ok None) e later = later
      by (Ok (Some row)) e later = (holds n line row all.0 e, later)

  each-row : (text : List ℕ) (rows : List Row) → AllByRecursion Of (lines text) → table line_of name number text ≡ Ok rows → AllByRecursion Holds rows
  each-row text rows all e =
      let told = unless_ok (first_fault (line_fault line_of name number) [] (lines text)) (rows_from line_of name number 1 (lines text)) rows e in
      subst (λ (rs : List Row). AllByRecursion Holds rs) told.1 (each-from 1 (lines text) all)

module _ (Of : List ℕ → Type 0) where
  pub each-user : (Holds : Passwd → Type 0) → ((n : ℕ) (line : List ℕ) (row : Passwd) → Of line → IsUser n (fields_of line) row → Holds row) → (text : List ℕ) (rows : List Passwd) → AllByRecursion Of (lines text) → passwd_table text ≡ Ok rows → AllByRecursion Holds rows
  unfolding passwd_table
  each-user Holds holds = each-row passwd_line (λ row. row.name) (λ row. row.uid) Of Holds (λ n line row of e. holds n line row of (user-line n line row e).2)

  pub each-group : (Holds : Group → Type 0) → ((n : ℕ) (line : List ℕ) (row : Group) → Of line → IsGroup n (fields_of line) row → Holds row) → (text : List ℕ) (rows : List Group) → AllByRecursion Of (lines text) → group_table text ≡ Ok rows → AllByRecursion Holds rows
  unfolding group_table
  each-group Holds holds = each-row group_line (λ row. row.name) (λ row. row.gid) Of Holds (λ n line row of e. holds n line row of (group-line n line row e).2)
