use Rattle.std.proofs.Common.{◌≡◌, ◌++◌, ℕ, List, length}
use Rattle.mtree_inv.specs.Standing as reader
use Rattle.mtree_inv.specs.declared.entry.Entry.{Entry}
use Rattle.reown_runner.specs.PlanTree.{found_among}
use Rattle.rehearsal.proofs.plan_rehearsal.note_waiting.Given as goal

-- done: the files that were noted
abbrev pub invariant-loop-file : goal.invariant-loop-file
invariant-loop-file l = record {
  stays : l.from ≡ record l.initial.from { waiting = l.from.waiting };
  stands : (text : List ℕ) → reader.StandsFor l.initial.from text → reader.StandsFor l.from text;
  done : List Entry;
  so_far : l.initial.from.waiting ≡ done ++ l.from.waiting;
  noted : (files : List Entry) (paths : List (List ℕ)) → l.initial.tree ≡ found_among files paths → l.tree ≡ found_among (files ++ done) paths;
}

abbrev pub decreases-loop-file : goal.decreases-loop-file
decreases-loop-file l = length l.from.waiting
