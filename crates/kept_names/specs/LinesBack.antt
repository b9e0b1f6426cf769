-- The lines of `verify`, read word by word.
-- Source: this project's own format; passwd(5) and group(5) for what an owner is.
use Rattle.std.specs.Prelude.{◌≡◌, ℕ, ◌≤◌, ◌<◌, Bool, true, false, List, [], ◌∷◌, Option, Some}
use Rattle.std.specs.Prelude.{None, Ok, IfSome, All, map, take, drop, codes, length, ◌==◌, flat_map}
use Rattle.std.specs.Prelude.{if◌then◌else◌}
use Rattle.std.specs.Str.{bytes_eq}
use Rattle.std.specs.Str.Parse.{digits_value}
use Rattle.accounts.specs.Rows.{Passwd, Group}
use Rattle.accounts.specs.Tables.{passwd_table, group_table}
use Rattle.hosts_join.specs.Kinds.{user_at, group_at}
use Rattle.idtext.specs.Escapes.{unescaped}
use Rattle.idtext.specs.Names.{is_lawful_name}
use Rattle.idtext.specs.Numbers.{greatest_id}
use Rattle.idtext.specs.Pieces.{lines}
use Rattle.idtext.specs.Words.{words}
use Rattle.mtree_inv.specs.declared.entry.Entry.{Entry}
use Rattle.mtree_inv.specs.Files.{IsLawfulFile}
use Rattle.kept_names.specs.Kept.{Found, findings}
use Rattle.kept_names.specs.Telling.{line_of}
use Rattle.kept_names.specs.declared.names.Accounts.{Accounts}
use Rattle.kept_names.specs.declared.names.Renumbering.{Renumbering}
use Rattle.kept_names.specs.declared.finding.What.{What}
use Rattle.kept_names.specs.declared.finding.What.TheVariants.{Missing, Changed, New, Unnamed, Left}

-- a number, and the name that it has, if any
pub record Owner : Type 0 where
  pub name : Option (List ℕ)
  pub number : ℕ

-- What a line tells of a file: users and groups with their names, the earlier before the later,
-- and numbers alone.
pub record Line : Type 0 where
  pub kind : List ℕ
  pub path : List ℕ
  pub users : List Owner
  pub groups : List Owner
  pub uids : List ℕ
  pub gids : List ℕ

-- ---- reading

-- a hyphen is no name
abbrev pub name_said : List ℕ → Option (List ℕ)
name_said word = if bytes_eq word (codes "-") then None else Some (unescaped word)

abbrev pub number_said : List ℕ → ℕ
number_said word = digits_value 10 word

-- owners, each a name and a number
abbrev pub owners_said : List (List ℕ) → List Owner
owners_said (name ∷ number ∷ more) =
    record { name = name_said name; number = number_said number } ∷ owners_said more
owners_said other = []

-- after a first word that is this one, so many words, and then the others; no words where the
-- first is another
abbrev pub behind : List ℕ → ℕ → List (List ℕ) → List (List ℕ) × List (List ℕ)
behind head n [] = ([], [])
behind head n (word ∷ more) =
    if bytes_eq word head then (take n more, drop n more) else ([], word ∷ more)

-- two owners of a file that is changed, and else one
abbrev pub words_of_owners : List ℕ → ℕ
words_of_owners kind = if bytes_eq kind (codes "changed") then 4 else 2

-- what the words after a path tell: `user` and owners, `group` and owners, `uid` and a number,
-- `gid` and a number, each of which may be left out, and nothing else
abbrev pub said_behind : List ℕ → List ℕ → List (List ℕ) → Option Line
said_behind kind path details =
    let users = behind (codes "user") (words_of_owners kind) details in
    let groups = behind (codes "group") (words_of_owners kind) users.1 in
    let uids = behind (codes "uid") 1 groups.1 in
    let gids = behind (codes "gid") 1 uids.1 in
    if length gids.1 == 0
    then Some (record {
      kind = kind;
      path = unescaped path;
      users = owners_said users.0;
      groups = owners_said groups.0;
      uids = map number_said uids.0;
      gids = map number_said gids.0;
    })
    else None

-- the words of a line: `unify:`, a kind, a path, and what stands after it
abbrev pub line_said : List (List ℕ) → Option Line
line_said (first ∷ kind ∷ path ∷ details) =
    if bytes_eq first (codes "unify:") then said_behind kind path details else None
line_said other = None

-- ---- what is to be told

abbrev pub user_told : Accounts → ℕ → Owner
user_told accounts uid = record { name = user_at accounts.users uid; number = uid }

abbrev pub group_told : Accounts → ℕ → Owner
group_told accounts gid = record { name = group_at accounts.groups gid; number = gid }

-- it, where it is asked for
abbrev pub asked : {X : Type 0} → Bool → X → List X
asked true x = x ∷ []
asked false x = []

-- of an owner that has changed the earlier one, and the later one, which has the number
abbrev pub both : Option ℕ → Owner → (ℕ → Owner) → List Owner
both None was now = []
both (Some number) was now = was ∷ now number ∷ []

abbrev pub path_alone : List ℕ → Entry → Line
path_alone kind file =
    record { kind = kind; path = file.path; users = []; groups = []; uids = []; gids = [] }

-- a missing file has its path alone; one that has changed each owner that is another, by the old
-- account files and then by the new ones; a new one both its owners, by the new ones; one that is
-- unnamed the numbers without a name; and one with a number that was left the owners who had it
abbrev pub line_told : Renumbering → Entry → What → Line
line_told renumbering file Missing = path_alone (codes "missing") file
line_told renumbering file (Changed uid gid) =
    record (path_alone (codes "changed") file) {
      users = both uid (user_told renumbering.before file.uid) (user_told renumbering.after);
      groups = both gid (group_told renumbering.before file.gid) (group_told renumbering.after);
    }
line_told renumbering file New =
    record (path_alone (codes "new") file) {
      users = user_told renumbering.after file.uid ∷ [];
      groups = group_told renumbering.after file.gid ∷ [];
    }
line_told renumbering file (Unnamed user group) =
    record (path_alone (codes "unnamed") file) {
      uids = asked user file.uid;
      gids = asked group file.gid;
    }
line_told renumbering file (Left user group) =
    record (path_alone (codes "left") file) {
      users = asked user (user_told renumbering.before file.uid);
      groups = asked group (group_told renumbering.before file.gid);
    }

abbrev pub told : Renumbering → Found → Line
told renumbering found = line_told renumbering found.file found.what

-- ---- what can be told

-- a lawful name of bytes: it does not begin with a hyphen
pub record IsTellableName (name : List ℕ) : Type 0 where
  pub lawful : is_lawful_name name ≡ true
  pub bytes : All (λ b. b < 256) name

pub record AreTellable (accounts : Accounts) : Type 0 where
  pub users : All (λ (row : Passwd). IsTellableName row.name) accounts.users
  pub groups : All (λ (row : Group). IsTellableName row.name) accounts.groups

-- the numbers of owners that have changed are those of accounts
abbrev pub HasIds : What → Type 0
HasIds (Changed uid gid) = IfSome uid (λ n. n ≤ greatest_id) × IfSome gid (λ n. n ≤ greatest_id)
HasIds other = Unit {0}

-- a lawful file whose path is of bytes
pub record IsTellableFile (file : Entry) : Type 0 where
  pub lawful : IsLawfulFile file
  pub bytes : All (λ b. b < 256) file.path

pub record IsTellable (found : Found) : Type 0 where
  pub file : IsTellableFile found.file
  pub what : HasIds found.what

-- the names of accepted account files can be told, where these are of bytes
abbrev pub TablesAreTellable : Type 0
TablesAreTellable = (passwd group : List ℕ) (accounts : Accounts) → All (λ b. b < 256) passwd
    → All (λ b. b < 256) group → passwd_table passwd ≡ Ok accounts.users
    → group_table group ≡ Ok accounts.groups → AreTellable accounts

-- what is found of lawful files can be told, where their paths are of bytes
abbrev pub FindingsAreTellable : Type 0
FindingsAreTellable = (renumbering : Renumbering) (before after : List Entry)
    → All IsTellableFile before → All IsTellableFile after
    → All IsTellable (findings renumbering before after)

-- ---- the law

-- each line is read as what is to be told of its finding
abbrev pub LinesAreReadBack : Type 0
LinesAreReadBack = (renumbering : Renumbering) (found : List Found)
    → AreTellable renumbering.before → AreTellable renumbering.after
    → All IsTellable found
    → map (λ line. line_said (words line)) (lines (flat_map (line_of renumbering) found))
    ≡ map (λ f. Some (told renumbering f)) found
