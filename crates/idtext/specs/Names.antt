-- Names of accounts, and lines that say nothing.
-- Source: passwd(5) and group(5), DESCRIPTION: colons part fields, commas the users of a group,
-- newlines entries; a plus or a minus begins an entry of NIS. Which names are lawful, and that a
-- number sign begins a comment, are this project's own rules.
use Rattle.std.specs.Prelude.{ℕ, Bool, List, ◌==◌, ◌||◌, ◌&&◌, not, length, slice_index}
use Rattle.std.specs.List.{list_all, list_any}
use Rattle.idtext.specs.Words.{is_white}

-- a byte that stands in no name: comma, colon, newline and NUL
abbrev pub is_separator : ℕ → Bool
is_separator b = b == 44 || b == 58 || b == 10 || b == 0

-- a lawful name is not empty, has no such byte, and does not begin with a number sign, a plus or a
-- minus
abbrev pub is_lawful_name : List ℕ → Bool
is_lawful_name name =
    not (length name == 0)
    && not (slice_index name 0 == 35 || slice_index name 0 == 43 || slice_index name 0 == 45)
    && not (list_any is_separator name)

-- a line that is empty or only white space, or begins with a number sign, says nothing
abbrev pub is_skipped : List ℕ → Bool
is_skipped line = list_all is_white line || slice_index line 0 == 35
