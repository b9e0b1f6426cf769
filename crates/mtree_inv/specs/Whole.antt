-- Whether an inventory that tells where it begins and ends is whole.
-- Source: this project's own form, comments of mtree(5) to every other reader: the first line, `#
-- unify inventory` and a host, and the last one, `# end` and the number of lines between them that
-- give a file.
use Rattle.std.specs.Prelude.{ℕ, Bool, true, false, not, ◌==◌, List, [], ◌∷◌, length, filter}
use Rattle.std.specs.Prelude.{Option, Some, None, if◌then◌else◌}
use Rattle.std.specs.Option.{option_or, option_flatten}
use Rattle.idtext.specs.Numbers.{id_of}
use Rattle.mtree_inv.specs.Looking.{last_said}
use Rattle.mtree_inv.specs.Kinds.{Kind, Begins, Counts, Names}

abbrev pub is_beginning : Kind → Bool
is_beginning Begins = true
is_beginning _ = false

-- a full or a relative entry
abbrev pub gives_file : Kind → Bool
gives_file (Names word keywords) = true
gives_file _ = false

abbrev pub files_given : List Kind → ℕ
files_given lines = length (filter gives_file lines)

-- what a line says of the number of files before it: `# end` the number after it, where that is
-- one; an entry, that none is told
abbrev pub told_by : Kind → Option (Option ℕ)
told_by (Counts text) = Some (id_of text)
told_by (Names word keywords) = Some None
told_by _ = None

-- the number that lines leave told: that of the last `# end`, with no entry since
abbrev pub told : List Kind → Option ℕ
told lines = option_flatten (last_said told_by lines)

abbrev pub is_number : Option ℕ → ℕ → Bool
is_number None n = false
is_number (Some m) n = m == n

-- the lines after a first one end an inventory: the number of their files is told, and no file
-- stands after that
abbrev pub is_ended : List Kind → Bool
is_ended since = is_number (told since) (files_given since)

-- the lines after the last line that begins an inventory, where one does
abbrev pub lines_since : List Kind → Option (List Kind)
lines_since [] = None
lines_since (line ∷ rest) =
    option_or (lines_since rest) (if is_beginning line then Some rest else None)

abbrev pub lacks_end : Option (List Kind) → Bool
lacks_end None = false
lacks_end (Some since) = not (is_ended since)

-- the inventory that was begun last lacks its end; where none was begun, nothing is missing
abbrev pub is_cut : List Kind → Bool
is_cut lines = lacks_end (lines_since lines)
