use Rattle.std.proofs.Common.{◌≡◌, ◌≤◌, length}
use Rattle.idtext.specs.Words.{words}
use Rattle.mtree_inv.proofs.keywords.without_indent.Given as goal

abbrev pub invariant-loop-behind : goal.invariant-loop-behind
invariant-loop-behind l = (words l.rest ≡ words l.line) × (length l.rest ≤ length l.line)

abbrev pub decreases-loop-behind : goal.decreases-loop-behind
decreases-loop-behind l = length l.rest
