use Rattle.std.proofs.Common.{◌≡◌, ◌++◌, ℕ, List}
use Rattle.std.specs.Option.{option_map}
use Rattle.idtext.specs.Pieces.{lines}
use Rattle.reown_files.specs.MarkText.{Entry, lines_read, mode_in}
use Rattle.reown_files.specs.Trees.{mode_at}
use Rattle.reown_files.proofs.modes_file.read_lines.Given as goal

-- the tree has the modes of the entries before, and these stand in front of what is left
abbrev pub invariant-loop-line : goal.invariant-loop-line
invariant-loop-line l =
    (before : List Entry) × ((path : List ℕ) → mode_at l.modes.entries path ≡ mode_in before path)
    × (lines_read (lines l.text) ≡ option_map (λ rest. before ++ rest) (lines_read l.line-iterator))
