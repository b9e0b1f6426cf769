-- The names of rows that were read have bytes, where their text has.
use Rattle.std.proofs.Common.{◌≡◌, ℕ, ◌<◌, List, ◌∷◌, subst, Ok}
use Rattle.std.specs.List.{AllByRecursion}
use Rattle.idtext.specs.Pieces.{fields_of}
use Rattle.idtext.proofs.EachByte.{each-line, each-piece}
use Rattle.accounts.specs.Rows.{Passwd, Group}
use Rattle.accounts.specs.Tables.{group_table, passwd_table}
use Rattle.accounts.proofs.TableRows.{each-group, each-user}

abbrev pub AreBytes : List ℕ → Type 0
AreBytes text = AllByRecursion (λ b. b < 256) text

fields-bytes : (line first : List ℕ) (more : List (List ℕ)) → AreBytes line → fields_of line ≡ first ∷ more → AreBytes first
fields-bytes line first more all are = (subst (λ (fs : List (List ℕ)). AllByRecursion AreBytes fs) are (each-piece (λ b. b < 256) 58 line all)).0

pub users-bytes : (text : List ℕ) (rows : List Passwd) → AreBytes text → passwd_table text ≡ Ok rows → AllByRecursion (λ (row : Passwd). AreBytes row.name) rows
users-bytes text rows all =
    each-user AreBytes (λ row. AreBytes row.name) (λ n line row bytes is. fields-bytes line row.name _ bytes is.are) text rows (each-line (λ b. b < 256) text all)

pub groups-bytes : (text : List ℕ) (rows : List Group) → AreBytes text → group_table text ≡ Ok rows → AllByRecursion (λ (row : Group). AreBytes row.name) rows
groups-bytes text rows all =
    each-group AreBytes (λ row. AreBytes row.name) (λ n line row bytes is. fields-bytes line row.name _ bytes is.are) text rows (each-line (λ b. b < 256) text all)
