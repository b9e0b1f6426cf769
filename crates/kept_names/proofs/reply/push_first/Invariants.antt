use Rattle.std.proofs.Common.{◌≡◌, ◌++◌, take}
use Rattle.kept_names.specs.Tally.{tally_of}
use Rattle.kept_names.specs.Telling.{first_lines}
use Rattle.kept_names.proofs.reply.push_first.Given as goal

abbrev pub invariant-loop-finding : goal.invariant-loop-finding
invariant-loop-finding l =
    (l.tally ≡ tally_of (take l.finding-index l.found))
    × (l.lines.items
    ≡ l.fn.lines.items ++ first_lines l.renumbering l.most (take l.finding-index l.found))
