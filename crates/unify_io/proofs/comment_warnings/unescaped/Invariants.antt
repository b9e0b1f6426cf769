use Rattle.std.proofs.Common.{length}
use Rattle.std.specs.Prelude.{⊤}
use Rattle.unify_io.proofs.comment_warnings.unescaped.Given as goal

abbrev pub invariant-loop-character : goal.invariant-loop-character
invariant-loop-character l = ⊤

abbrev pub decreases-loop-character : goal.decreases-loop-character
decreases-loop-character l = length l.rest
