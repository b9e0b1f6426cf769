use Rattle.std.proofs.Common.{◌≡◌, ℕ, ◌<◌, get_or, true}
use Rattle.idtext.specs.Words.{is_white}
use Rattle.mtree_inv.proofs.keywords.white_len.Given as goal

abbrev pub invariant-loop-i : goal.invariant-loop-i
invariant-loop-i l = (k : ℕ) → k < l.i → is_white (get_or l.line k 0) ≡ true
