use Rattle.std.proofs.Common.{◌≡◌, ◌++◌, length}
use Rattle.idtext.specs.Escapes.{unescaped, has_bad_escape}
use Rattle.reown_files.proofs.modes_file.path_of.Given as goal

abbrev pub invariant-loop-found : goal.invariant-loop-found
invariant-loop-found l = (l.path.items ++ unescaped l.rest ≡ unescaped l.text) × (has_bad_escape l.rest ≡ has_bad_escape l.text)

abbrev pub decreases-loop-found : goal.decreases-loop-found
decreases-loop-found l = length l.rest
