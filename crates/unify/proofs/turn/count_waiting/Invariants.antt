use Rattle.std.proofs.Common.{◌≡◌, ◌+◌, ◌≤◌, ◌++◌, ℕ, List, None, length}
use Rattle.mtree_inv.specs.Standing as standing
use Rattle.mtree_inv.specs.declared.entry.Entry.{Entry}
use Rattle.std.specs.Prelude.{IfSome}
use Rattle.unify.specs.Places.{ArePlaces}
use Rattle.unify.specs.Turns.{AreCounted}
use Rattle.unify.specs.RowFiles.{row_files}
use Rattle.unify.proofs.turn.count_waiting.Given as goal

-- done: the files that were counted
abbrev pub invariant-loop-entry : goal.invariant-loop-entry
invariant-loop-entry l = record {
  stays : l.from ≡ record l.initial.from { waiting = l.from.waiting };
  stands : (text : List ℕ) → standing.StandsFor l.initial.from text → standing.StandsFor l.from text;
  done : List Entry;
  so_far : l.initial.from.waiting ≡ done ++ l.from.waiting;
  counted : (files : List Entry) → AreCounted l.host l.initial.rows None files → AreCounted l.host l.rows None (files ++ done);
  before : IfSome l.before (ArePlaces l.host);
  room : (files : List Entry) × (l.rows ≡ row_files l.host files) × (length files + length l.from.waiting ≤ 2147483648);
}

abbrev pub decreases-loop-entry : goal.decreases-loop-entry
decreases-loop-entry l = length l.from.waiting
