-- Which path an entry gives its file where no directory is open or its word has a slash: part by
-- part, in other words than those of the definition.
-- Source: mtree(5), whose full entries are paths from the starting directory; this project's
-- profile over it for empty parts and `.`.
use Rattle.std.specs.Prelude.{◌≡◌, ◌≢◌, ℕ, List, [], ◌∷◌, ◌++◌, All, bytes_eq, codes}
use Rattle.std.specs.Prelude.{if◌then◌else◌}
use Rattle.idtext.specs.Escapes.{characters, bytes_of, unescaped}
use Rattle.idtext.specs.declared.escapes.Character.{Character}
use Rattle.idtext.specs.declared.escapes.Character.TheVariants.{Plain}
use Rattle.mtree_inv.specs.Inventory.{path_of}
use Rattle.mtree_inv.specs.Kinds.{Kind}

-- the path of a name in the starting directory; an empty name means this directory, as `.` does
abbrev pub path_of_name : List ℕ → List ℕ
path_of_name [] = codes "."
path_of_name (b ∷ name) = b ∷ name

-- the path that goes on from a directory; `.` is the path of the directory where one begins
abbrev pub path_from : List ℕ → List ℕ → List ℕ
path_from dir path =
    if bytes_eq path (codes ".") then dir
    else (if bytes_eq dir (codes ".") then path else dir ++ 47 ∷ path)

-- no character is a slash that belongs to no escape
abbrev pub IsOnePart : List Character → Type 0
IsOnePart part = All (λ character. character ≢ Plain 47) part

-- the first part of a word with a slash is a directory, in which the rest after this slash names
-- the file, whatever directories are open
abbrev pub FirstPartIsDirectory : Type 0
FirstPartIsDirectory =
    (before : List Kind) (word rest : List ℕ) (first : List Character)
    → characters word ≡ first ++ Plain 47 ∷ characters rest → IsOnePart first
    → path_of before word ≡ path_from (path_of_name (bytes_of first)) (path_of [] rest)

-- a word without a slash is a name, in the starting directory where none is open
abbrev pub LastPartIsName : Type 0
LastPartIsName = (word : List ℕ) → IsOnePart (characters word)
    → path_of [] word ≡ path_of_name (unescaped word)
