-- The figures of a report, read word by word.
-- Source: this project's own formats.
use Rattle.std.specs.Prelude.{◌≡◌, ℕ, ◌<◌, ◌^◌, Bool, false, ◌&&◌, nat_lt, if◌then◌else◌, List, []}
use Rattle.std.specs.Prelude.{◌∷◌, map, length, find, Option, Some, None, bytes_eq, codes}
use Rattle.std.specs.Char.{digit_value}
use Rattle.std.specs.List.{list_all}
use Rattle.std.specs.Option.{option_and_then}
use Rattle.std.specs.Str.Parse.{digits_value}
use Rattle.idtext.specs.Pieces.{lines as lines_of}
use Rattle.idtext.specs.Words.{is_filled, words}
use Rattle.hosts_join.specs.Accounts.{Accounts, all_lines}
use Rattle.hosts_join.specs.Site.{Joined}
use Rattle.hosts_join.specs.declared.host.Host.{Host}
use Rattle.ownership.specs.Costs.{cost_of, changed_rows}
use Rattle.ownership.specs.Files.{File, Added, by_user, by_group, owned_files}
use Rattle.ownership.specs.declared.mapping.Mappings.{Mappings}
use Rattle.unify_texts.specs.Figures.{pinned_names, kept_names, fresh_names}
use Rattle.unify_texts.specs.Report.{report_of}

-- ---- reading

-- the number that decimal digits write
abbrev pub number_of : List ℕ → Option ℕ
number_of digits =
    if is_filled digits && list_all (λ d. nat_lt (digit_value d) 10) digits
    then Some (digits_value 10 digits) else None

-- the number after a word, where each word has a number after it
abbrev pub number_behind : List ℕ → List (List ℕ) → Option ℕ
number_behind word (other ∷ number ∷ more) =
    if bytes_eq other word then number_of number else number_behind word more
number_behind word other = None

abbrev pub begins_so : List ℕ → List (List ℕ) → Bool
begins_so first [] = false
begins_so first (word ∷ more) = bytes_eq word first

-- the number after a word, in the first row that begins with another word, or with this one
abbrev pub number_in : List (List (List ℕ)) → List ℕ → List ℕ → Option ℕ
number_in rows first word = option_and_then (number_behind word) (find (begins_so first) rows)

-- the same in a text, each of whose lines is a row of words
abbrev pub number_told : List ℕ → List ℕ → List ℕ → Option ℕ
number_told text first word = number_in (map words (lines_of text)) first word

-- ---- what is read

-- Of the names of a kind: how many there are, how many are pinned, how many keep a number, and how
-- many have a fresh one.
pub record TellsNames (text kinds : List ℕ) (a : Accounts) (m : List ℕ) : Type 0 where
  pub names : number_told text kinds kinds ≡ Some (length a.names)
  pub pinned : number_told text kinds (codes "pinned") ≡ Some (pinned_names a)
  pub kept : number_told text kinds (codes "kept") ≡ Some (kept_names a m)
  pub fresh : number_told text kinds (codes "fresh") ≡ Some (fresh_names a m)

-- how many change, and of how many
pub record TellsChange (text what : List ℕ) (changed all : ℕ) : Type 0 where
  pub first : number_told text what what ≡ Some changed
  pub behind_of : number_told text what (codes "of") ≡ Some all

-- what a report of mappings tells in figures, the files being those of all hosts
pub record TellsFigures (text : List ℕ) (hosts : List Host) (site : Joined) (files : List Added)
    (m : Mappings) : Type 0 where
  pub count : number_told text (codes "hosts") (codes "hosts") ≡ Some (length hosts)
  pub users : TellsNames text (codes "users") site.users m.users
  pub groups : TellsNames text (codes "groups") site.groups m.groups
  pub user_fields : TellsChange text (codes "user-fields")
      (cost_of site.users (by_user files) m.users) (owned_files site.users.names (by_user files))
  pub group_fields : TellsChange text (codes "group-fields")
      (cost_of site.groups (by_group files) m.groups)
      (owned_files site.groups.names (by_group files))
  pub user_lines : TellsChange text (codes "user-lines") (changed_rows site.users m.users)
      (all_lines site.users.names)
  pub group_lines : TellsChange text (codes "group-lines") (changed_rows site.groups m.groups)
      (all_lines site.groups.names)

-- ---- the law

-- numbers that 64 bits hold: of names, of files that these own, and of account rows
pub record AreCountable (a : Accounts) (files : List File) : Type 0 where
  pub names : length a.names < 2 ^ 64
  pub owned : owned_files a.names files < 2 ^ 64
  pub rows : all_lines a.names < 2 ^ 64

abbrev pub ReportsReadBack : Type 0
ReportsReadBack =
    (hosts : List Host) (site : Joined) (files : List Added) (m : Mappings)
    → length hosts < 2 ^ 64 → AreCountable site.users (by_user files)
    → AreCountable site.groups (by_group files)
    → TellsFigures (report_of hosts site files m) hosts site files m
