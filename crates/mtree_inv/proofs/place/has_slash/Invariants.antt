use Rattle.std.proofs.Common.{◌≡◌, length}
use Rattle.mtree_inv.specs.Open.{is_full}
use Rattle.mtree_inv.proofs.place.has_slash.Given as goal

abbrev pub invariant-loop-character : goal.invariant-loop-character
invariant-loop-character l = is_full l.rest ≡ is_full l.word

abbrev pub decreases-loop-character : goal.decreases-loop-character
decreases-loop-character l = length l.rest
