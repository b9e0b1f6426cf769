-- What an entry tells of its file's kind.
-- Source: mtree(5): an entry is a path and keywords; the keyword `type` and its values.
use Rattle.std.specs.Prelude.{◌≡◌, ℕ, List, [], ◌∷◌, Option, Some, None, bytes_eq, codes, drop}
use Rattle.std.specs.Prelude.{if◌then◌else◌, length}
use Rattle.idtext.specs.Pieces.{begins_with, pieces}
use Rattle.inventory_text.specs.Listed.{Listed, line_of}
use Rattle.inventory_text.specs.declared.kind.FileKind.{FileKind}
use Rattle.inventory_text.specs.declared.kind.FileKind.TheVariants.{Block, Character, Directory}
use Rattle.inventory_text.specs.declared.kind.FileKind.TheVariants.{Fifo, Regular, Link, Socket}

-- what a value of the keyword `type` says
abbrev pub kind_of_value : List ℕ → Option FileKind
kind_of_value value =
    if bytes_eq value (codes "block") then Some Block
    else if bytes_eq value (codes "char") then Some Character
    else if bytes_eq value (codes "dir") then Some Directory
    else if bytes_eq value (codes "fifo") then Some Fifo
    else if bytes_eq value (codes "file") then Some Regular
    else if bytes_eq value (codes "link") then Some Link
    else if bytes_eq value (codes "socket") then Some Socket
    else None

-- what the first keyword `type` says, among keywords with their values
abbrev pub kind_of_keywords : List (List ℕ) → Option FileKind
kind_of_keywords [] = None
kind_of_keywords (word ∷ words) =
    if begins_with (codes "type=") word
    then kind_of_value (drop (length (codes "type=")) word)
    else kind_of_keywords words

-- what an entry says whose words have one space between each two: the first is the path
abbrev pub kind_of_entry : List ℕ → Option FileKind
kind_of_entry line = kind_of_keywords (drop 1 (pieces 32 line))

-- the line of a file tells its kind, whatever bytes its path has
abbrev pub KindsReadBack : Type 0
KindsReadBack = (listed : Listed) → kind_of_entry (line_of listed) ≡ Some listed.kind
