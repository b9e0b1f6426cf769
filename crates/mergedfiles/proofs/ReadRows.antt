-- The fields of rows that were read have neither colons nor newlines, and a gid is an id.
use Rattle.std.proofs.Common.{◌≡◌, ℕ, ◌≤◌, List, subst, Ok}
use Rattle.std.specs.List.{AllByRecursion}
use Rattle.idtext.specs.Pieces.{fields_of}
use Rattle.accounts.specs.Rows.{Passwd, Group}
use Rattle.accounts.specs.Tables.{passwd_table, group_table}
use Rattle.accounts.proofs.LawLemmas.{id-small}
use Rattle.accounts.proofs.RowLemmas.{IsGroup, IsUser}
use Rattle.accounts.proofs.TableRows.{each-group, each-user}
use Rattle.mergedfiles.proofs.ReadLines.{Lacks, IsPlain, lines-lack, fields-plain}

pub record HasPlainFields (row : Passwd) : Type 0 where
  pub password : IsPlain row.password
  pub comment : IsPlain row.comment
  pub home : IsPlain row.home
  pub shell : IsPlain row.shell
  pub gid : row.gid ≤ 4294967294

pub record HasPlainParts (row : Group) : Type 0 where
  pub password : IsPlain row.password
  pub members : IsPlain row.members

user-plain : (n : ℕ) (line : List ℕ) (row : Passwd) → Lacks 10 line → IsUser n (fields_of line) row → HasPlainFields row
user-plain n line row lacks is =
    let plain = subst (λ (fs : List (List ℕ)). AllByRecursion IsPlain fs) is.are (fields-plain line lacks) in
    record { password = plain.1.0; comment = plain.1.1.1.1.0; home = plain.1.1.1.1.1.0; shell = plain.1.1.1.1.1.1.0; gid = id-small is.gid row.gid is.group }

group-plain : (n : ℕ) (line : List ℕ) (row : Group) → Lacks 10 line → IsGroup n (fields_of line) row → HasPlainParts row
group-plain n line row lacks is =
    let plain = subst (λ (fs : List (List ℕ)). AllByRecursion IsPlain fs) is.are (fields-plain line lacks) in
    record { password = plain.1.0; members = plain.1.1.1.0 }

pub users-plain : (text : List ℕ) (rows : List Passwd) → passwd_table text ≡ Ok rows → AllByRecursion HasPlainFields rows
users-plain text rows = each-user (Lacks 10) HasPlainFields user-plain text rows (lines-lack text)

pub groups-plain : (text : List ℕ) (rows : List Group) → group_table text ≡ Ok rows → AllByRecursion HasPlainParts rows
groups-plain text rows = each-group (Lacks 10) HasPlainParts group-plain text rows (lines-lack text)
