-- How an inventory is written.
-- Source: mtree(5), full entries, comments, and the keywords `type`, `uid` and `gid`; the first
-- and the last line, and that each path begins with `./`, are this project's own form.
use Rattle.std.specs.Prelude.{ℕ, List, [], ◌∷◌, ◌++◌, codes, decimal, flat_map}
use Rattle.idtext.specs.Escapes.{escaped}
use Rattle.inventory_text.specs.declared.kind.FileKind.{FileKind}
use Rattle.inventory_text.specs.declared.kind.FileKind.TheVariants.{Block, Character, Directory}
use Rattle.inventory_text.specs.declared.kind.FileKind.TheVariants.{Fifo, Regular, Link, Socket}

-- the value of the keyword `type`
abbrev pub kind_word : FileKind → List ℕ
kind_word Block = codes "block"
kind_word Character = codes "char"
kind_word Directory = codes "dir"
kind_word Fifo = codes "fifo"
kind_word Regular = codes "file"
kind_word Link = codes "link"
kind_word Socket = codes "socket"

-- a word, a space, and what is after it
abbrev pub spaced : List ℕ → List ℕ → List ℕ
spaced word rest = word ++ 32 ∷ rest

-- a path with each byte visible; the slash in front makes it a path from the starting directory
abbrev pub name_word : List ℕ → List ℕ
name_word path = codes "./" ++ escaped path

abbrev pub type_word : FileKind → List ℕ
type_word kind = codes "type=" ++ kind_word kind

abbrev pub uid_word : ℕ → List ℕ
uid_word uid = codes "uid=" ++ decimal uid

abbrev pub gid_word : ℕ → List ℕ
gid_word gid = codes "gid=" ++ decimal gid

-- the line of a file
abbrev pub entry_line : List ℕ → ℕ → ℕ → FileKind → List ℕ
entry_line path uid gid kind =
    spaced (name_word path) (spaced (type_word kind) (spaced (uid_word uid) (gid_word gid)))

-- what the first line tells: the host, when the inventory was begun, and the roots whose files it
-- lists, as the command was given them
pub record Head : Type 0 where
  pub host : List ℕ
  pub time : List ℕ
  pub roots : List (List ℕ)

-- words with a space in front of each, and each byte of them visible
abbrev pub words_text : List (List ℕ) → List ℕ
words_text words = flat_map (λ word. 32 ∷ escaped word) words

-- the first line, a comment: the host, the time and the roots
abbrev pub head_line : Head → List ℕ
head_line head = codes "# unify inventory 1" ++ words_text (head.host ∷ head.time ∷ head.roots)

-- the last line, a comment with the number of files
abbrev pub end_line : ℕ → List ℕ
end_line count = codes "# end " ++ decimal count

-- a line and its newline
abbrev pub ended : List ℕ → List ℕ
ended line = line ++ 10 ∷ []
