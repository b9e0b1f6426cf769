-- Which path an entry gives its file, in other words than the definitions of mtree_inv.
-- Source: mtree(5): relative, dot-dot and full entries; this project's profile over it.
use Rattle.std.specs.Prelude.{◌≡◌, ℕ, ◌≤◌, true, false, List, [], ◌∷◌, ◌++◌, length}
use Rattle.std.specs.Prelude.{All, Contains, Ok, Some, bytes_eq, codes, if◌then◌else◌}
use Rattle.idtext.specs.Escapes.{has_bad_escape, unescaped}
use Rattle.idtext.specs.Words.{most_line_bytes}
use Rattle.idtext.specs.declared.faults.TextCode.TheVariants.{BadPath}
use Rattle.mtree_inv.specs.declared.entry.Entry.{Entry}
use Rattle.mtree_inv.specs.Inventory.{fault_of, inventory, path_of, said_alone}
use Rattle.mtree_inv.specs.Keywords.{has_lawful_numbers, is_directory, number_in_force}
use Rattle.mtree_inv.specs.Kinds.{Kind, Up, Names}
use Rattle.mtree_inv.specs.Open.{is_full, marks, open_names}
use Rattle.mtree_inv.specs.Paths.{components, parts, path_of_components}
use Rattle.inventory_text.specs.Listed.{IsName, IsPath}

-- the path of a name in the directory of this path; the path `.` is that of the starting directory,
-- and the name `.` means the directory itself, as an empty one would, which no line has
abbrev pub path_in : List ℕ → List ℕ → List ℕ
path_in dir [] = dir
path_in dir (b ∷ name) =
    if bytes_eq (b ∷ name) (codes ".") then dir
    else (if bytes_eq dir (codes ".") then b ∷ name else dir ++ 47 ∷ b ∷ name)

-- a file that a relative entry names where no directory is open stands in the starting directory
abbrev pub StandsAtTheStart : Type 0
StandsAtTheStart =
    (before : List Kind) (word : List ℕ) (keywords : List (List ℕ)) (file : Entry)
    → open_names (marks before) ≡ [] → is_full word ≡ false
    → said_alone before (Names word keywords) ≡ Ok (Some file)
    → file.path ≡ path_in (codes ".") (unescaped word)

-- a relative directory entry, and after it lines that leave open what it left open: a file that a
-- relative entry names there stands in that directory, whose path is the one that its entry gave it
abbrev pub StandsInItsDirectory : Type 0
StandsInItsDirectory =
    (before between : List Kind) (dir word : List ℕ) (of_dir keywords : List (List ℕ))
    (directory file : Entry)
    → is_full dir ≡ false → is_directory before of_dir ≡ true
    → said_alone before (Names dir of_dir) ≡ Ok (Some directory)
    → open_names (marks (before ++ Names dir of_dir ∷ between))
    ≡ open_names (marks (before ++ Names dir of_dir ∷ []))
    → is_full word ≡ false
    → said_alone (before ++ Names dir of_dir ∷ between) (Names word keywords) ≡ Ok (Some file)
    → file.path ≡ path_in directory.path (unescaped word)

-- a relative entry of a name, with lawful numbers and a path that is not too long, names a file
abbrev pub RelativeEntriesAreRead : Type 0
RelativeEntriesAreRead =
    (before : List Kind) (word : List ℕ) (keywords : List (List ℕ)) (uid gid : ℕ)
    → is_full word ≡ false → has_bad_escape word ≡ false → IsName (unescaped word)
    → length (path_of before word) ≤ most_line_bytes → has_lawful_numbers keywords ≡ true
    → number_in_force (codes "uid") before keywords ≡ Some uid
    → number_in_force (codes "gid") before keywords ≡ Some gid
    → said_alone before (Names word keywords)
    ≡ Ok (Some (record { path = path_of before word; uid = uid; gid = gid }))

-- a full entry names its own path, whatever is open
abbrev pub FullEntryStandsByItself : Type 0
FullEntryStandsByItself =
    (before : List Kind) (word : List ℕ) (keywords : List (List ℕ)) (file : Entry)
    → is_full word ≡ true → said_alone before (Names word keywords) ≡ Ok (Some file)
    → file.path ≡ path_of_components (components word)

-- a line that is neither `..` nor an entry of a directory
abbrev pub IsNoMove : List Kind → Kind → Type 0
IsNoMove before Up = ⊥
IsNoMove before (Names word keywords) = is_directory before keywords ≡ false
IsNoMove before _ = Unit {0}

-- such a line opens and closes nothing
abbrev pub OthersOpenNothing : Type 0
OthersOpenNothing = (before : List Kind) (line : Kind) → IsNoMove before line
    → open_names (marks (before ++ line ∷ [])) ≡ open_names (marks before)

-- an entry with a component `..`, once it is unescaped, names no file
abbrev pub DotDotIsRefused : Type 0
DotDotIsRefused =
    (most : ℕ) (before : List Kind) (word : List ℕ) (keywords : List (List ℕ))
    → Contains (parts word) (codes "..") → fault_of most before (Names word keywords) ≡ Some BadPath

-- each path of an inventory is `.` or names with slashes between them
abbrev pub PathsAreOfNames : Type 0
PathsAreOfNames = (most : ℕ) (text : List ℕ) (files : List Entry)
    → inventory most text ≡ Ok files → All (λ (file : Entry). IsPath file.path) files
