use Rattle.std.proofs.Common.{◌≡◌, ◌++◌, ℕ, List, length}
use Rattle.mtree_inv.specs.Standing as standing
use Rattle.mtree_inv.specs.declared.entry.Entry.{Entry}
use Rattle.survey.specs.Surveying.{AreOf}
use Rattle.survey.proofs.noting.note_waiting.Given as goal

-- done: the files whose numbers were noted
abbrev pub invariant-loop-file : goal.invariant-loop-file
invariant-loop-file l = record {
  stays : l.from ≡ record l.initial.from { waiting = l.from.waiting };
  stands : (text : List ℕ) → standing.StandsFor l.initial.from text → standing.StandsFor l.from text;
  done : List Entry;
  so_far : l.initial.from.waiting ≡ done ++ l.from.waiting;
  noted : (files : List Entry) → AreOf l.host files l.initial.noted → AreOf l.host (files ++ done) l.noted;
}

abbrev pub decreases-loop-file : goal.decreases-loop-file
decreases-loop-file l = length l.from.waiting
