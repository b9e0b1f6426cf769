-- The lines of a keep text.
-- Source: this project's own formats.
use Rattle.std.specs.Prelude.{ℕ, List, Option, Some, None, if◌then◌else◌, drop, codes}
use Rattle.std.specs.Prelude.{bytes_eq, nat_le}
use Rattle.idtext.specs.Names.{is_lawful_name, is_skipped}
use Rattle.idtext.specs.Numbers.{id_of}
use Rattle.idtext.specs.Pieces.{begins_with}
use Rattle.idtext.specs.Spaces.{cut_at_last_space}
use Rattle.hosts_join.specs.declared.Which.{Which}
use Rattle.hosts_join.specs.declared.Which.TheVariants.{User, Group}
use Rattle.keep_text.specs.declared.keep_line.Said.TheVariants.{Name, Range, Unowned}
use Rattle.keep_text.specs.declared.keep_line.KeepLine.{KeepLine}
use Rattle.keep_text.specs.declared.keep_line.KeepLine.TheVariants.{Skipped, Wrong, Given}

-- after `user ` or `group `: a lawful name, which may hold spaces
abbrev pub named : Which → List ℕ → KeepLine
named which name = if is_lawful_name name then Given which (Name name) else Wrong

-- after `users ` or `groups `: two ids with one space between, the first no greater than the
-- second
abbrev pub between : Which → Option ℕ → Option ℕ → KeepLine
between which None high = Wrong
between which (Some low) None = Wrong
between which (Some low) (Some high) =
    if nat_le low high then Given which (Range (record { low = low; high = high })) else Wrong

abbrev pub ranged : Which → Option (List ℕ × List ℕ) → KeepLine
ranged which None = Wrong
ranged which (Some ends) = between which (id_of ends.0) (id_of ends.1)

-- what a line says: `user NAME`, `group NAME`, `users LOW HIGH`, `groups LOW HIGH`,
-- `unowned users` or `unowned groups`
unfoldable pub keep_line_of : List ℕ → KeepLine
keep_line_of line =
    if is_skipped line then Skipped
    else if begins_with (codes "user ") line then named User (drop 5 line)
    else if begins_with (codes "group ") line then named Group (drop 6 line)
    else if begins_with (codes "users ") line then ranged User (cut_at_last_space (drop 6 line))
    else if begins_with (codes "groups ") line then ranged Group (cut_at_last_space (drop 7 line))
    else if bytes_eq line (codes "unowned users") then Given User Unowned
    else if bytes_eq line (codes "unowned groups") then Given Group Unowned
    else Wrong
