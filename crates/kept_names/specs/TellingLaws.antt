-- What the counts, the lines and the exit status of `verify` mean.
-- Source: this project's own rule and format; chown(2) for what an owner is.
use Rattle.std.specs.Prelude.{◌≡◌, ◌≢◌, ◌↔◌, ℕ, ◌+◌, ◌-◌, ◌<◌, ◌≤◌, ◌^◌, nat_lt}
use Rattle.std.specs.Prelude.{Bool, List, ◌++◌, codes, count_by, filter, find, map, take, zip}
use Rattle.std.specs.Prelude.{length, Option, None, Some, All, filter_map, flat_map, option_map}
use Rattle.std.specs.Prelude.{is_some, ◌⊎◌, if◌then◌else◌}
use Rattle.std.specs.Str.{bytes_eq}
use Rattle.std.specs.Str.Parse.{digits_value}
use Rattle.hosts_join.specs.Kinds.{user_at, group_at}
use Rattle.idtext.specs.Pieces.{lines}
use Rattle.idtext.specs.Spaces.{cut_at_last_space}
use Rattle.mtree_inv.specs.declared.entry.Entry.{Entry}
use Rattle.mtree_inv.specs.Files.{HaveDistinctFiles}
use Rattle.kept_names.specs.Kept.{Found, findings}
use Rattle.kept_names.specs.Laws.{HasNoFileAt, IsKept, IsLeft}
use Rattle.kept_names.specs.Telling.{Counts, counts_of, counts_text, found_text}
use Rattle.kept_names.specs.Telling.{kind_word, kinds, line_of, more_text, status_of}
use Rattle.kept_names.specs.declared.names.Accounts.{Accounts}
use Rattle.kept_names.specs.declared.names.Renumbering.{Renumbering}
use Rattle.kept_names.specs.declared.finding.What.{What}

-- ---- the counts

-- of a line what stands before its last space, and the number after it
abbrev pub row_of : List ℕ → Option (List ℕ × ℕ)
row_of line = option_map (λ parts. (parts.0, digits_value 10 parts.1)) (cut_at_last_space line)

abbrev pub rows_in : List ℕ → List (List ℕ × ℕ)
rows_in text = filter_map row_of (lines text)

-- the number that stands after a word, in the first line that begins with it
abbrev pub number_told : List ℕ → List ℕ → Option ℕ
number_told word text =
    option_map (λ (row : List ℕ × ℕ). row.1) (find (λ row. bytes_eq row.0 word) (rows_in text))

-- each of six words has its number after it, and there are six lines
pub record TellsCounts (text : List ℕ) (counts : Counts) : Type 0 where
  pub kept : number_told (codes "kept") text ≡ Some counts.kept
  pub missing : number_told (codes "missing") text ≡ Some counts.missing
  pub changed : number_told (codes "changed") text ≡ Some counts.changed
  pub new : number_told (codes "new") text ≡ Some counts.new
  pub unnamed : number_told (codes "unnamed") text ≡ Some counts.unnamed
  pub left : number_told (codes "left") text ≡ Some counts.left
  pub six : length (lines text) ≡ 6

-- numbers that a machine of 64 bits counts to
pub record AreOf64Bits (counts : Counts) : Type 0 where
  pub kept : counts.kept < 2 ^ 64
  pub missing : counts.missing < 2 ^ 64
  pub changed : counts.changed < 2 ^ 64
  pub new : counts.new < 2 ^ 64
  pub unnamed : counts.unnamed < 2 ^ 64
  pub left : counts.left < 2 ^ 64

-- the counts that are printed are read back, each after its word
abbrev pub CountsAreReadBack : Type 0
CountsAreReadBack = (counts : Counts) → AreOf64Bits counts → TellsCounts (counts_text counts) counts

-- each file of the first inventory is kept, missing or changed
abbrev pub CountsAddUp : Type 0
CountsAddUp = (renumbering : Renumbering) (before after : List Entry)
    → (let counts = counts_of renumbering before after in
    counts.kept + counts.missing + counts.changed) ≡ length before

-- ---- each finding once

-- the findings of the kind with this word, in their order
abbrev pub of_kind : List ℕ → List Found → List Found
of_kind word found = filter (λ f. bytes_eq (kind_word f.what) word) found

-- the files that are told with this word, in the order of what is found
abbrev pub files_told : List ℕ → List Found → List Entry
files_told word found = map (λ f. f.file) (of_kind word found)

-- some of these files, each as often as there, and in their order
abbrev pub AreSomeOf : List Entry → List Entry → Type 0
AreSomeOf files some = (chosen : Entry → Bool) × (some ≡ filter chosen files)

-- With each word a file is told once, in the order of its inventory: the first for what is missing
-- or changed, and the second for the rest.
pub record TellsOnce (before after : List Entry) (found : List Found) : Type 0 where
  pub missing : AreSomeOf before (files_told (codes "missing") found)
  pub changed : AreSomeOf before (files_told (codes "changed") found)
  pub new : AreSomeOf after (files_told (codes "new") found)
  pub unnamed : AreSomeOf after (files_told (codes "unnamed") found)
  pub left : AreSomeOf after (files_told (codes "left") found)

abbrev pub EachIsToldOnce : Type 0
EachIsToldOnce = (renumbering : Renumbering) (before after : List Entry)
    → TellsOnce before after (findings renumbering before after)

-- each number is how many files are told with its word
pub record AreNumbersOf (found : List Found) (counts : Counts) : Type 0 where
  pub missing : counts.missing ≡ length (files_told (codes "missing") found)
  pub changed : counts.changed ≡ length (files_told (codes "changed") found)
  pub new : counts.new ≡ length (files_told (codes "new") found)
  pub unnamed : counts.unnamed ≡ length (files_told (codes "unnamed") found)
  pub left : counts.left ≡ length (files_told (codes "left") found)

abbrev pub EachIsCountedOnce : Type 0
EachIsCountedOnce = (renumbering : Renumbering) (before after : List Entry)
    → AreNumbersOf (findings renumbering before after) (counts_of renumbering before after)

-- ---- the lines

-- with room for all, each finding has its line, in their order, and nothing else is told
abbrev pub AllAreTold : Type 0
AllAreTold = (renumbering : Renumbering) (most : ℕ) (found : List Found) → length found ≤ most
    → found_text renumbering most found ≡ flat_map (line_of renumbering) found

-- the findings whose mark is set, in their order
abbrev pub marked : List Bool → List Found → List Found
marked marks found = map (λ row. row.1) (filter (λ row. row.0) (zip marks found))

-- Some of the findings have a line each, in their order: of each kind the first, as many as may be
-- told. After these lines stands how many more there are, and nothing else is told.
pub record TellsFirst (renumbering : Renumbering) (most : ℕ) (found : List Found) : Type 0 where
  pub marks : List Bool
  pub text : found_text renumbering most found
      ≡ flat_map (line_of renumbering) (marked marks found) ++ more_text most found
  pub first : (word : List ℕ)
      → of_kind word (marked marks found) ≡ take most (of_kind word found)

abbrev pub FirstAreTold : Type 0
FirstAreTold = (renumbering : Renumbering) (most : ℕ) (found : List Found)
    → TellsFirst renumbering most found

-- how many findings of the kind with this word have no line, if any
abbrev pub not_told : ℕ → List ℕ → List Found → Option ℕ
not_told most word found =
    let number = length (of_kind word found) in
    if nat_lt most number then Some (number - most) else None

-- each kind that has findings without a line has a line with their number, and there is no other
pub record TellsMore (most : ℕ) (found : List Found) (text : List ℕ) : Type 0 where
  pub number : (what : What)
      → number_told (codes "unify: more " ++ kind_word what ++ codes ":") text
      ≡ not_told most (kind_word what) found
  pub no_other : length (lines text) ≡ count_by (λ word. is_some (not_told most word found)) kinds

abbrev pub MoreAreReadBack : Type 0
MoreAreReadBack = (most : ℕ) (found : List Found) → length found < 2 ^ 64
    → TellsMore most found (more_text most found)

-- ---- the exit status

-- the user and the group of a file have names
pub record HasNames (accounts : Accounts) (file : Entry) : Type 0 where
  pub user : user_at accounts.users file.uid ≢ None
  pub group : group_at accounts.groups file.gid ≢ None

-- neither of a file's numbers is one that a name has left
pub record HasNoLeftNumber (renumbering : Renumbering) (file : Entry) : Type 0 where
  pub user : ¬ IsLeft (user_at renumbering.before.users file.uid)
      (user_at renumbering.after.users file.uid)
  pub group : ¬ IsLeft (group_at renumbering.before.groups file.gid)
      (group_at renumbering.after.groups file.gid)

-- Each file of the first inventory is in the second with its owner, each file of the second has
-- names by the new account files, and no file that is new has a number that a name has left.
pub record IsInOrder (renumbering : Renumbering) (before after : List Entry) : Type 0 where
  pub kept : All (IsKept renumbering after) before
  pub named : All (HasNames renumbering.after) after
  pub new : All (λ file. HasNoFileAt before file.path → HasNoLeftNumber renumbering file) after

-- the status is 0 exactly where that is so
abbrev pub StatusTellsOrder : Type 0
StatusTellsOrder = (renumbering : Renumbering) (before after : List Entry) → HaveDistinctFiles after
    → (status_of (findings renumbering before after) ≡ 0) ↔ IsInOrder renumbering before after

-- else it is 1, and no other
abbrev pub StatusIsElseOne : Type 0
StatusIsElseOne = (found : List Found) → (status_of found ≡ 0) ⊎ (status_of found ≡ 1)
