use Rattle.std.proofs.Common.{◌≡◌, ℕ, List, length}
use Rattle.mtree_inv.specs.Standing as standing
use Rattle.unify.proofs.turn.drain.Given as goal

abbrev pub invariant-loop : goal.invariant-loop
invariant-loop l = record {
  stays : l.reader ≡ record l.initial.reader { waiting = l.reader.waiting };
  stands : (text : List ℕ) → standing.StandsFor l.initial.reader text → standing.StandsFor l.reader text;
}

abbrev pub decreases-loop : goal.decreases-loop
decreases-loop l = length l.reader.waiting
