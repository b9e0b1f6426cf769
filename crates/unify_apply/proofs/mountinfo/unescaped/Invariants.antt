use Rattle.std.proofs.Common.{◌≡◌, ◌++◌, length, map}
use Rattle.idtext.specs.Escapes.{characters}
use Rattle.unify_apply.specs.Mounts.{path_byte, path_in}
use Rattle.unify_apply.proofs.mountinfo.unescaped.Given as goal

abbrev pub invariant-loop-character : goal.invariant-loop-character
invariant-loop-character l =
    l.path.items ++ map path_byte (characters l.rest) ≡ path_in l.word

abbrev pub decreases-loop-character : goal.decreases-loop-character
decreases-loop-character l = length l.rest
