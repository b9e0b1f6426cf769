-- How the first line of an inventory is read.
-- Source: this project's own form.
use Rattle.std.specs.Prelude.{ℕ, List, [], ◌∷◌, Option, Some, None, codes, drop, length, map}
use Rattle.std.specs.Prelude.{if◌then◌else◌}
use Rattle.idtext.specs.Escapes.{unescaped}
use Rattle.idtext.specs.Pieces.{begins_with, pieces}
use Rattle.inventory_text.specs.Writing.{Head}

-- what every first line begins with
abbrev pub head_front : List ℕ
head_front = codes "# unify inventory 1 "

-- a host, a time, and all that is after them
abbrev pub head_of_words : List (List ℕ) → Option Head
head_of_words [] = None
head_of_words (host ∷ []) = None
head_of_words (host ∷ time ∷ roots) = Some (record { host = host; time = time; roots = roots })

-- the words after the front, with one space between each two, and the escapes in them read
abbrev pub head_of : List ℕ → Option Head
head_of line =
    if begins_with head_front line
    then head_of_words (map unescaped (pieces 32 (drop (length head_front) line)))
    else None
