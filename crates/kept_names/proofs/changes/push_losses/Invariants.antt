use Rattle.std.proofs.Common.{◌≡◌, ◌++◌, take}
use Rattle.std.specs.List.{filter_map}
use Rattle.kept_names.specs.Kept.{loss}
use Rattle.kept_names.proofs.changes.push_losses.Given as goal

abbrev pub invariant-loop-file : goal.invariant-loop-file
invariant-loop-file l =
    l.found.items
    ≡ l.fn.found.items ++ filter_map (loss l.renumbering l.after) (take l.file-index l.files)
