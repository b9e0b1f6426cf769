-- What `verify` tells of the files of two inventories: how many there are, the lines of those that
-- something is found of, and the exit status.
-- Source: this project's own formats.
use Rattle.std.specs.Prelude.{ℕ, ◌-◌, Bool, true, false, List, [], ◌∷◌, ◌++◌, Option, Some, None}
use Rattle.std.specs.Prelude.{codes, count_by, decimal, flat_map, is_none, nat_lt, if◌then◌else◌}
use Rattle.std.specs.List.{list_any}
use Rattle.std.specs.Option.{option_map_or}
use Rattle.std.specs.Str.{bytes_eq}
use Rattle.hosts_join.specs.Kinds.{user_at, group_at}
use Rattle.idtext.specs.Escapes.{escaped}
use Rattle.mtree_inv.specs.Looking.{looking_back}
use Rattle.mtree_inv.specs.declared.entry.Entry.{Entry}
use Rattle.kept_names.specs.Kept.{Found, findings, loss_of}
use Rattle.kept_names.specs.declared.names.Accounts.{Accounts}
use Rattle.kept_names.specs.declared.names.Renumbering.{Renumbering}
use Rattle.kept_names.specs.declared.finding.What.{What}
use Rattle.kept_names.specs.declared.finding.What.TheVariants.{Missing, Changed, New, Unnamed, Left}

-- ---- kinds

-- the word of a kind
abbrev pub kind_word : What → List ℕ
kind_word Missing = codes "missing"
kind_word (Changed uid gid) = codes "changed"
kind_word New = codes "new"
kind_word (Unnamed user group) = codes "unnamed"
kind_word (Left user group) = codes "left"

abbrev pub kinds : List (List ℕ)
kinds = codes "missing" ∷ codes "changed" ∷ codes "new" ∷ codes "unnamed" ∷ codes "left" ∷ []

-- how many findings are of the kind with this word
abbrev pub number_of : List ℕ → List Found → ℕ
number_of word found = count_by (λ f. bytes_eq (kind_word f.what) word) found

-- ---- how many there are

-- how many files are kept, and how many findings are of each kind
pub record Counts : Type 0 where
  pub kept : ℕ
  pub missing : ℕ
  pub changed : ℕ
  pub new : ℕ
  pub unnamed : ℕ
  pub left : ℕ

-- of how many files of the first inventory nothing is found missing or changed
abbrev pub kept_files : Renumbering → List Entry → List Entry → ℕ
kept_files renumbering before after =
    count_by (λ file. is_none (loss_of renumbering after file)) before

abbrev pub counts_of : Renumbering → List Entry → List Entry → Counts
counts_of renumbering before after =
    record {
      kept = kept_files renumbering before after;
      missing = number_of (codes "missing") (findings renumbering before after);
      changed = number_of (codes "changed") (findings renumbering before after);
      new = number_of (codes "new") (findings renumbering before after);
      unnamed = number_of (codes "unnamed") (findings renumbering before after);
      left = number_of (codes "left") (findings renumbering before after);
    }

abbrev pub counted : Counts → List (List ℕ × ℕ)
counted counts =
    (codes "kept", counts.kept) ∷ (codes "missing", counts.missing)
    ∷ (codes "changed", counts.changed) ∷ (codes "new", counts.new)
    ∷ (codes "unnamed", counts.unnamed) ∷ (codes "left", counts.left) ∷ []

-- a line: a word, a space and a number
abbrev pub count_line : List ℕ × ℕ → List ℕ
count_line row = row.0 ++ 32 ∷ decimal row.1 ++ 10 ∷ []

-- a line for each
abbrev pub counts_text : Counts → List ℕ
counts_text counts = flat_map count_line (counted counts)

-- ---- the line of a file

-- the name, or a hyphen where no account has the number, and the number
abbrev pub owner_text : Option (List ℕ) → ℕ → List ℕ
owner_text name number = 32 ∷ option_map_or escaped name (codes "-") ++ 32 ∷ decimal number

abbrev pub user_text : Accounts → ℕ → List ℕ
user_text accounts uid = owner_text (user_at accounts.users uid) uid

abbrev pub group_text : Accounts → ℕ → List ℕ
group_text accounts gid = owner_text (group_at accounts.groups gid) gid

-- of a file's user and group those that are asked for, by these account files
abbrev pub owners_text : Accounts → Entry → Bool → Bool → List ℕ
owners_text accounts file user group =
    (if user then codes " user" ++ user_text accounts file.uid else [])
    ++ (if group then codes " group" ++ group_text accounts file.gid else [])

-- the user that a file had by the old account files, and the one that it has by the new ones
abbrev pub user_change : Renumbering → Entry → Option ℕ → List ℕ
user_change renumbering file None = []
user_change renumbering file (Some uid) =
    codes " user" ++ user_text renumbering.before file.uid ++ user_text renumbering.after uid

abbrev pub group_change : Renumbering → Entry → Option ℕ → List ℕ
group_change renumbering file None = []
group_change renumbering file (Some gid) =
    codes " group" ++ group_text renumbering.before file.gid ++ group_text renumbering.after gid

-- of a file's two numbers those that are asked for
abbrev pub numbers_text : Entry → Bool → Bool → List ℕ
numbers_text file user group =
    (if user then codes " uid " ++ decimal file.uid else [])
    ++ (if group then codes " gid " ++ decimal file.gid else [])

-- what a line says of a file after its path
abbrev pub details : Renumbering → Entry → What → List ℕ
details renumbering file Missing = []
details renumbering file (Changed uid gid) =
    user_change renumbering file uid ++ group_change renumbering file gid
details renumbering file New = owners_text renumbering.after file true true
details renumbering file (Unnamed user group) = numbers_text file user group
details renumbering file (Left user group) = owners_text renumbering.before file user group

abbrev pub line_of : Renumbering → Found → List ℕ
line_of renumbering found =
    codes "unify: " ++ kind_word found.what ++ 32 ∷ escaped found.file.path
    ++ details renumbering found.file found.what ++ 10 ∷ []

-- ---- which lines there are

-- The line of a finding, where fewer than `most` of its kind stand before it.
abbrev pub first_line : Renumbering → ℕ → List Found → Found → List ℕ
first_line renumbering most before found =
    if nat_lt (number_of (kind_word found.what) before) most then line_of renumbering found else []

-- the lines of the first findings of each kind
unfoldable pub first_lines : Renumbering → ℕ → List Found → List ℕ
first_lines renumbering most found =
    flat_map (λ line. line) (looking_back (first_line renumbering most) found)

-- the line that tells how many more there are of a kind
abbrev pub more_line : List ℕ → ℕ → List ℕ
more_line word number = codes "unify: more " ++ word ++ codes ": " ++ decimal number ++ 10 ∷ []

-- this line, where there are more than lines
abbrev pub more_of : ℕ → List ℕ → ℕ → List ℕ
more_of most word number = if nat_lt most number then more_line word (number - most) else []

-- the lines of all kinds that have more
abbrev pub more_text : ℕ → List Found → List ℕ
more_text most found = flat_map (λ word. more_of most word (number_of word found)) kinds

-- all that is told of the findings
abbrev pub found_text : Renumbering → ℕ → List Found → List ℕ
found_text renumbering most found =
    first_lines renumbering most found ++ more_text most found

-- ---- the exit status

-- new files alone are no fault
abbrev pub is_fault : What → Bool
is_fault New = false
is_fault _ = true

abbrev pub status_of : List Found → ℕ
status_of found = if list_any (λ f. is_fault f.what) found then 1 else 0
