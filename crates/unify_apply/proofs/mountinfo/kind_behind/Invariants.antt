use Rattle.std.proofs.Common.{◌≡◌, length}
use Rattle.unify_apply.specs.Mounts.{kind_in}
use Rattle.unify_apply.proofs.mountinfo.kind_behind.Given as goal

abbrev pub invariant-loop-word : goal.invariant-loop-word
invariant-loop-word l = kind_in l.words ≡ kind_in l.fn.words

abbrev pub decreases-loop-word : goal.decreases-loop-word
decreases-loop-word l = length l.words
