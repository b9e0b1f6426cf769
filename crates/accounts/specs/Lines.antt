-- What a line of an account file is, before its fields are looked at.
-- Sources: nsswitch.conf(5), compat mode (a line with a plus or a minus in front takes in or leaves
-- out accounts of NIS). That such a line is refused, which lines are skipped, and both limits, are
-- rules of this product.
use Rattle.std.specs.Prelude.{ℕ, Bool, true, false, List, length, Result, Ok, ◌==◌, ◌||◌, nat_lt}
use Rattle.std.specs.Prelude.{slice_index, if◌then◌else◌}
use Rattle.idtext.specs.declared.faults.TextCode.TheVariants.{TooManyLines, LineTooLong, CompatLine}
use Rattle.idtext.specs.declared.faults.TextFault.{TextFault}
use Rattle.idtext.specs.Faults.{refused}
use Rattle.idtext.specs.Names.{is_skipped}
use Rattle.idtext.specs.Words.{most_line_bytes}

-- how many lines an account file may have
abbrev pub most_lines : ℕ
most_lines = 65536

-- a plus or a minus in front, as the compat mode of NIS has it
abbrev pub is_compat : List ℕ → Bool
is_compat line = slice_index line 0 == 43 || slice_index line 0 == 45

-- whether a line has a row, or what is wrong with it as a whole
abbrev pub is_kept : ℕ → List ℕ → Result Bool TextFault
is_kept number line =
    if nat_lt most_lines number then refused number TooManyLines
    else if nat_lt most_line_bytes (length line) then refused number LineTooLong
    else if is_skipped line then Ok false
    else if is_compat line then refused number CompatLine
    else Ok true
